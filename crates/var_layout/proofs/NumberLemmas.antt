-- The number of an operation that has a name.
use Rattle.std.proofs.Common.{◌≡◌, ◌<◌, ◌≤◌, ℕ, [], length, get_or, true, false, refl, ap, sym, ◌∙◌, arith}
use Rattle.std.specs.Prelude.{Some, IsSome}
use Rattle.std.specs.List.{find, slice_get}
use Rattle.std.proofs.lemmas.List.{length-map}
use Rattle.std.proofs.lemmas.List.Folds.{find_at}
use Rattle.std.proofs.lemmas.List.Sums.{position_or_len_is}
use Rattle.std.proofs.lemmas.Option.{slice_get-get_or, slice_get_within}
use Rattle.trace_semantics.specs.declared.operation.OpName.{OpName}
use Rattle.trace_semantics.specs.Judgement.{is_the_op}
use Rattle.trace_semantics.specs.Operation.{same_op}
use Rattle.trace_semantics.specs.Trace.{TraceValue, operation_at, operation_names, operation_count}
use Rattle.trace_semantics.proofs.NameLemmas.{same_name, name_same, known_listed, name_turned}
use Rattle.trace_semantics.proofs.ElementLemmas.{finds}
use Rattle.var_layout.specs.Numbered.{NumberedOp, numbered}
use Rattle.var_layout.specs.Numbers.{name_at, number_of}
use Rattle.var_layout.proofs.NumberingLemmas.{counted, names_of}

pub names_counted : (t : TraceValue) → length (operation_names t) ≡ operation_count t
names_counted t = ap length (sym (names_of t.processes)) ∙ length-map (numbered t) (λ (x : NumberedOp). x.name) ∙ counted t

name_within : (t : TraceValue) (n d : OpName) (k : ℕ) → k < operation_count t → same_op n (get_or (operation_names t) k d) ≡ is_the_op (name_at t k) n
name_within t n d k l =
    let within : k < length (operation_names t) = omega (arith, l, names_counted t) in
    name_turned n (get_or (operation_names t) k d) ∙ ap (λ o. is_the_op o n) (sym (slice_get-get_or (operation_names t) k d within))

-- an operation's number has a name
pub name_here : (t : TraceValue) (i : ℕ) → i < operation_count t → (n : OpName) × (name_at t i ≡ Some n)
name_here t i l = let d : OpName = record { process = []; place = 0 } in (get_or (operation_names t) i d, slice_get-get_or (operation_names t) i d (omega (arith, l, names_counted t)))

-- the first operation of this name
pub number_here : (t : TraceValue) (n : OpName) (i : ℕ) → i ≤ operation_count t → ((k : ℕ) → k < i → is_the_op (name_at t k) n ≡ false) → (i < operation_count t → is_the_op (name_at t i) n ≡ true) → i ≡ number_of t n
number_here t n i l before here =
    let d : OpName = record { process = []; place = 0 } in
    let count = names_counted t in
    sym (position_or_len_is (same_op n) (operation_names t) i d (omega (arith, l, count))
    (λ k m. name_within t n d k (omega (arith, m, l)) ∙ before k m)
    (λ m. let within : i < operation_count t = omega (arith, m, count) in name_within t n d i within ∙ here within))

-- a known operation has a number, and is the one that has it
pub record HasNumber (t : TraceValue) (n : OpName) : Type 0 where
  pub within : number_of t n < operation_count t
  pub named : name_at t (number_of t n) ≡ Some n

pub known_number : (t : TraceValue) (n : OpName) → IsSome (operation_at t n) → HasNumber t n
known_number t n known =
    let names = operation_names t in
    let listed = known_listed t n known in
    let found : find (same_op n) names ≡ Some n = finds (same_op n) names n (name_same n n refl) (λ m c h. sym (same_name n m h)) listed in
    let there : slice_get names (number_of t n) ≡ Some n = sym (find_at (same_op n) names) ∙ found in
    let within = slice_get_within names (number_of t n) n there in
    record { within = omega (arith, within, names_counted t); named = there }
