-- The operations of a trace, as they are numbered, are those that its names name.
use Rattle.std.proofs.Common.{Bor, ◌≡◌, ◌<◌, ◌≤◌, ◌+◌, get_or, take, ℕ, zero, suc, List, [], ◌∷◌, ◌++◌, length, map, append_assoc, refl, ap, sym, ◌∙◌, arith, inl, inr, subst}
use Rattle.std.specs.Prelude.{Option, Some, None}
use Rattle.std.specs.List.{Contains, enumerate_from, flat_map, range_with_len, slice_get, sum_by}
use Rattle.std.specs.Option.{option_and_then, option_copied, option_map}
use Rattle.std.specs.Slice.{IsItemAt}
use Rattle.std.proofs.lemmas.List.{length-map, map-append, get_or-map, take_more, take_all}
use Rattle.std.proofs.lemmas.List.Concat.{length-flat_map}
use Rattle.std.proofs.lemmas.List.FromFn.{length-enumerate_from, get_or-enumerate_from}
use Rattle.std.proofs.lemmas.Option.{slice_get-map, slice_get_past, slice_get_read}
use Rattle.trace_semantics.specs.declared.operation.Op.{Op}
use Rattle.trace_semantics.specs.declared.trace.Process.{Process}
use Rattle.trace_semantics.specs.Trace.{TraceValue, IsTrace, at_place, operation_at, first_names, operation_count}
use Rattle.trace_semantics.proofs.ElementLemmas.{none_in, cases_in, from_map, from_flat_map}
use Rattle.restriction.proofs.LeftLemmas.{process_of}
use Rattle.restriction.proofs.PlaceLemmas.{in_list}
use Rattle.var_layout.specs.Numbered.{NumberedOp, numbered_op, numbered_in, numbered}
use Rattle.var_layout.specs.Numbers.{name_at, op_at}

names_in : (process : List ℕ) (k : ℕ) (ops : List Op) → map (λ (x : NumberedOp). x.name) (map (numbered_op process) (enumerate_from k ops)) ≡ map (λ (j : ℕ). record { process = process; place = j }) (range_with_len k (length ops))
names_in process k [] = refl
names_in process k (op ∷ ops) = ap (λ l. record { process = process; place = k } ∷ l) (names_in process (k + 1) ops)

pub names_of : (ps : List Process) → map (λ (x : NumberedOp). x.name) (flat_map numbered_in ps) ≡ flat_map (λ (p : Process). first_names p.name (length p.operations)) ps
names_of [] = refl
names_of (p ∷ ps) = map-append (λ (x : NumberedOp). x.name) (numbered_in p) (flat_map numbered_in ps) ∙ (λ i. names_in p.name 1 p.operations i ++ names_of ps i)

length_in : (p : Process) → length (numbered_in p) ≡ length p.operations
length_in p = length-map (enumerate_from 1 p.operations) (numbered_op p.name) ∙ length-enumerate_from 1 p.operations

pub counted : (t : TraceValue) → length (numbered t) ≡ operation_count t
counted t = length-flat_map numbered_in t.processes ∙ ap (λ f. sum_by f t.processes) (λ i p. length_in p i)

-- an element with its place
pub at_enumerated : {X : Type 0} (k : ℕ) (xs : List X) (e : ℕ × X) → Contains (enumerate_from k xs) e → (i : ℕ) × (e.0 ≡ k + i) × (slice_get xs i ≡ Some e.1)
at_enumerated k [] e c = absurd (none_in e c)
at_enumerated k (x ∷ xs) e c =
    elim (cases_in (k, x) (enumerate_from (k + 1) xs) e c) [
      | inl h ↦ (zero, (let first : k ≡ e.0 = ap (λ p. p.0) h in omega (arith, first)), ap (λ p. Some p.1) h)
      | inr d ↦ (let more = at_enumerated (k + 1) xs e d in (suc more.0, omega (arith, more.1), more.2))
    ]

named_there : (t : TraceValue) → IsTrace t → (p : Process) → Contains t.processes p → (e : ℕ × Op) → Contains (enumerate_from 1 p.operations) e → operation_at t (numbered_op p.name e).name ≡ Some e.1
named_there t ok p listed e c =
    let at = at_enumerated 1 p.operations e c in
    let place : e.0 ≡ suc at.0 = omega (arith, at.1) in
    ap (option_and_then (λ (q : Process). at_place q.operations e.0)) (process_of t ok p listed) ∙ ap (at_place p.operations) place ∙ at.2

pub is_there : (t : TraceValue) → IsTrace t → (x : NumberedOp) → Contains (numbered t) x → operation_at t x.name ≡ Some x.op
is_there t ok x c =
    let of = from_flat_map numbered_in t.processes x c in
    let at = from_map (numbered_op of.0.name) (enumerate_from 1 of.0.operations) x of.2 in
    subst (λ (y : NumberedOp). operation_at t y.name ≡ Some y.op) at.2 (named_there t ok of.0 of.1 at.0 at.1)

pub name_is : (t : TraceValue) (i : ℕ) → option_map (λ (x : NumberedOp). x.name) (slice_get (numbered t) i) ≡ name_at t i
name_is t i = sym (slice_get-map (λ (x : NumberedOp). x.name) (numbered t) i) ∙ ap (λ l. slice_get l i) (names_of t.processes)

pub op_is : (t : TraceValue) → IsTrace t → (i : ℕ) → option_map (λ (x : NumberedOp). x.op) (slice_get (numbered t) i) ≡ op_at t i
op_is t ok i = at (slice_get (numbered t) i) refl ∙ ap (option_and_then (operation_at t)) (name_is t i)
  where
    at : (o : Option NumberedOp) → slice_get (numbered t) i ≡ o → option_map (λ (x : NumberedOp). x.op) o ≡ option_and_then (operation_at t) (option_map (λ (x : NumberedOp). x.name) o)
    at None e = refl
    at (Some x) e = sym (is_there t ok x (in_list (numbered t) (suc i) x e))

-- what a slice lends at a place is what stands there
pub lent : {X : Type 0} (xs ys : List X) (i : ℕ) (r : Option (Bor X)) → IsItemAt ys i r → ys ≡ xs → option_copied r ≡ slice_get xs i
lent xs ys i None h e = sym (slice_get_past ys i h.3) ∙ ap (λ l. slice_get l i) e
lent xs ys i (Some x) h e = sym (slice_get_read ys (length ys) i x.now refl h.3.0 h.1) ∙ ap (λ l. slice_get l i) e

-- the numbered operations by place
pub names_there : (t s : TraceValue) (items : List NumberedOp) (i : ℕ) (o : Option NumberedOp) → o ≡ slice_get items i → items ≡ numbered t → t ≡ s → option_map (λ (x : NumberedOp). x.name) o ≡ name_at s i
names_there t s items i o there are same = ap (option_map (λ (x : NumberedOp). x.name)) (there ∙ ap (λ l. slice_get l i) are) ∙ name_is t i ∙ ap (λ u. name_at u i) same

pub ops_there : (t s : TraceValue) (items : List NumberedOp) (i : ℕ) (o : Option NumberedOp) → IsTrace t → o ≡ slice_get items i → items ≡ numbered t → t ≡ s → option_map (λ (x : NumberedOp). x.op) o ≡ op_at s i
ops_there t s items i o ok there are same = ap (option_map (λ (x : NumberedOp). x.op)) (there ∙ ap (λ l. slice_get l i) are) ∙ op_is t ok i ∙ ap (λ u. op_at u i) same

-- one operation more of a process
one_more_op : (p : Process) (k : ℕ) (op : Op) → k < length p.operations → op ≡ get_or p.operations k op → take (k + 1) (numbered_in p) ≡ take k (numbered_in p) ++ record { name = record { process = p.name; place = k + 1 }; op = op } ∷ []
one_more_op p k op l here =
    let at : ℕ × Op = (0, op) in
    let within : k < length (enumerate_from 1 p.operations) = omega (arith, l, length-enumerate_from 1 p.operations) in
    let place : 1 + k ≡ k + 1 = omega arith in
    take_more (numbered_in p) k (numbered_op p.name at) (omega (arith, l, length_in p))
    ∙ ap (λ x. take k (numbered_in p) ++ x ∷ [])
    (get_or-map (numbered_op p.name) (enumerate_from 1 p.operations) k at (numbered_op p.name at) within
    ∙ ap (numbered_op p.name) (get_or-enumerate_from 1 p.operations k at l)
    ∙ (λ i. record { name = record { process = p.name; place = place i }; op = sym here i }))

pub pushed_op : (p : Process) (k : ℕ) (op : Op) (old items new : List NumberedOp) → k < length p.operations → op ≡ get_or p.operations k op →
    items ≡ old ++ take k (numbered_in p) → new ≡ items ++ record { name = record { process = p.name; place = k + 1 }; op = op } ∷ [] → new ≡ old ++ take (k + 1) (numbered_in p)
pushed_op p k op old items new l here so_far e =
    let last : List NumberedOp = record { name = record { process = p.name; place = k + 1 }; op = op } ∷ [] in
    e ∙ ap (λ l. l ++ last) so_far ∙ append_assoc old (take k (numbered_in p)) last ∙ ap (λ l. old ++ l) (sym (one_more_op p k op l here))

pub all_ops : (p : Process) (k : ℕ) → length p.operations ≤ k → take k (numbered_in p) ≡ numbered_in p
all_ops p k l = take_all k (numbered_in p) (omega (arith, l, length_in p))
