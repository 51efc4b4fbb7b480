-- Where operations come first.
use Rattle.std.proofs.Common.{◌≡◌, ◌<◌, ◌≤◌, ◌+◌, ◌-◌, ℕ, zero, suc, List, [], ◌∷◌, length, take, drop, get_or, Bool, true, false, cond, ◌&&◌, ◌||◌, nat_lt, refl, ap, sym, ◌∙◌, arith}
use Rattle.std.specs.Prelude.{Option, Some, None, find}
use Rattle.std.specs.List.{slice_get, position_from, list_any}
use Rattle.std.specs.Option.{option_and_then}
use Rattle.std.specs.Str.{bytes_eq}
use Rattle.std.proofs.Math.Seq.{drop-length}
use Rattle.std.proofs.lemmas.Bool.Decides.{nat_tests, Decides-eqb}
use Rattle.std.proofs.lemmas.Bool.{le-ltb, or_parts}
use Rattle.std.proofs.lemmas.Option.{slice_get-get_or}
use Rattle.std.proofs.lemmas.Slice.Eq.{bytes_eq-Decides}
use Rattle.trace_semantics.specs.declared.operation.OpName.{OpName}
use Rattle.trace_semantics.specs.declared.trace.Process.{Process}
use Rattle.trace_semantics.specs.Operation.{same_op}
use Rattle.trace_semantics.proofs.NameLemmas.{name_turned}
use Rattle.trace_semantics.proofs.ValueLemmas.{drop_front}
use Rattle.schedule_judge.specs.Tables.{is_below}

-- no name yet
pub first_none : (names : List OpName) (n : OpName) → position_from (same_op n) (length names) (drop (length names) names) ≡ None
first_none names n = ap (position_from (same_op n) (length names)) (drop-length names)

-- no process yet
pub process_none : (processes : List Process) (name : List ℕ) (found : Option ℕ) → found ≡ None → option_and_then (slice_get processes) found ≡ find (λ p. bytes_eq p.name name) (drop (length processes) processes)
process_none processes name found e = ap (option_and_then (slice_get processes)) e ∙ sym (ap (find (λ p. bytes_eq p.name name)) (drop-length processes))

-- one more name in front
pub first_step : (names : List OpName) (k : ℕ) (x n : OpName) (old new : Option ℕ) → 0 < k → k ≤ length names → x ≡ get_or names (k - 1) x → new ≡ cond (same_op x n) (Some (k - 1)) old → old ≡ position_from (same_op n) k (drop k names) → new ≡ position_from (same_op n) (k - 1) (drop (k - 1) names)
first_step names k x n old new p l e here there =
    let s : k ≡ k - 1 + 1 = omega arith in
    here ∙ (λ i. cond (name_turned x n i) (Some (k - 1)) ((there ∙ (λ j. position_from (same_op n) (s j) (drop k names))) i)) ∙ sym (ap (position_from (same_op n) (k - 1)) (drop_front names k x p l e))

-- one more process in front
pub process_step : (processes : List Process) (k : ℕ) (x : Process) (name : List ℕ) (old new : Option ℕ) → 0 < k → k ≤ length processes → x ≡ get_or processes (k - 1) x → (s : List ℕ) → s ≡ (get_or processes (k - 1) x).name → new ≡ cond (bytes_eq s name) (Some (k - 1)) old → option_and_then (slice_get processes) old ≡ find (λ p. bytes_eq p.name name) (drop k processes) → option_and_then (slice_get processes) new ≡ find (λ p. bytes_eq p.name name) (drop (k - 1) processes)
process_step processes k x name old new p l e s named here there =
    let at : slice_get processes (k - 1) ≡ Some x = slice_get-get_or processes (k - 1) x (omega arith) ∙ ap Some (sym e) in
    let same : s ≡ x.name = named ∙ ap (λ p. p.name) (sym e) in
    ap (option_and_then (slice_get processes)) (here ∙ ap (λ s. cond (bytes_eq s name) (Some (k - 1)) old) same) ∙ chosen (bytes_eq x.name name) at ∙ sym (ap (find (λ p. bytes_eq p.name name)) (drop_front processes k x p l e))
  where
    chosen : (b : Bool) → slice_get processes (k - 1) ≡ Some x → option_and_then (slice_get processes) (cond b (Some (k - 1)) old) ≡ cond b (Some x) (find (λ p. bytes_eq p.name name) (drop k processes))
    chosen true at = at
    chosen false at = there

below_chosen : (b : Bool) (j i : ℕ) (o : Option ℕ) (r : Bool) → (b ≡ true → nat_lt j i ≡ (b || r)) → is_below o i ≡ r → is_below (cond b (Some j) o) i ≡ (b || r)
below_chosen true j i o r h rest = h refl
below_chosen false j i o r h rest = rest

not_below : {X : Type 0} (p : X → Bool) (xs : List X) (j i : ℕ) → i ≤ j → is_below (position_from p j xs) i ≡ false
not_below p [] j i h = refl
not_below p (x ∷ xs) j i h =
    let rest : is_below (position_from p (j + 1) xs) i ≡ false = not_below p xs (j + 1) i (omega arith) in
    not_below_chosen (p x) j i (position_from p (j + 1) xs) h rest
  where
    not_below_chosen : (b : Bool) (j i : ℕ) (o : Option ℕ) → i ≤ j → is_below o i ≡ false → is_below (cond b (Some j) o) i ≡ false
    not_below_chosen true j i o h rest = le-ltb j i h
    not_below_chosen false j i o h rest = rest

lt_more : (j c : ℕ) → nat_lt j (j + suc c) ≡ true
lt_more j c = grind (arith, nat_tests)

below_from : {X : Type 0} (p : X → Bool) (xs : List X) (j c : ℕ) → is_below (position_from p j xs) (j + c) ≡ list_any p (take c xs)
below_from p xs j zero = not_below p xs j (j + 0) (omega arith)
below_from p [] j (suc c) = refl
below_from p (x ∷ xs) j (suc c) =
    let s : j + suc c ≡ j + 1 + c = omega arith in
    below_chosen (p x) j (j + suc c) (position_from p (j + 1) xs) (list_any p (take c xs)) (λ e. lt_more j c ∙ ap (λ b. b || list_any p (take c xs)) (sym e)) (ap (is_below (position_from p (j + 1) xs)) s ∙ below_from p xs (j + 1) c)

-- an operation has come among the first names if and only if it comes first there
pub below_first : {X : Type 0} (p : X → Bool) (xs : List X) (c : ℕ) → is_below (position_from p 0 xs) c ≡ list_any p (take c xs)
below_first p xs c = let s : c ≡ 0 + c = omega arith in ap (is_below (position_from p 0 xs)) s ∙ below_from p xs 0 c

-- what passes and has not come before comes first here
pub first_at : {X : Type 0} (p : X → Bool) (xs : List X) (j i : ℕ) (x : X) → slice_get xs i ≡ Some x → p x ≡ true → list_any p (take i xs) ≡ false → position_from p j xs ≡ Some (j + i)
first_at p [] j i x at here before = absurd (cc)
first_at p (y ∷ xs) j zero x at here before =
    let same : y ≡ x = cc in
    let zeros : j ≡ j + 0 = omega arith in
    ap (λ b. cond b (Some j) (position_from p (j + 1) xs)) (ap p same ∙ here) ∙ ap Some zeros
first_at p (y ∷ xs) j (suc i) x at here before =
    let parts = or_parts (p y) (list_any p (take i xs)) before in
    let s : j + 1 + i ≡ j + suc i = omega arith in
    ap (λ b. cond b (Some j) (position_from p (j + 1) xs)) parts.0 ∙ first_at p xs (j + 1) i x at here parts.1 ∙ ap Some s

pub same_op_refl : (n : OpName) → same_op n n ≡ true
same_op_refl n = λ i. (bytes_eq-Decides n.process n.process).1 refl i && (Decides-eqb n.place n.place).1 refl i
