-- A choice that grows by one name.
use Rattle.std.proofs.Common.{◌≡◌, ◌<◌, ◌+◌, ℕ, zero, suc, List, [], ◌∷◌, ◌++◌, length, take, get_or, Bool, true, false, ◌||◌, refl, ap, sym, ◌∙◌, arith, subst}
use Rattle.std.specs.Prelude.{Some, None}
use Rattle.std.specs.List.{list_any}
use Rattle.std.proofs.lemmas.List.{take_more}
use Rattle.text_lines.specs.FirstFault.{IsFirstFault}
use Rattle.text_lines.proofs.FaultLemmas.{faultless_push}
use Rattle.trace_semantics.specs.declared.operation.OpName.{OpName}
use Rattle.trace_semantics.specs.Judgement.{has_come}
use Rattle.trace_semantics.specs.Operation.{same_op}
use Rattle.trace_semantics.specs.Trace.{TraceValue}
use Rattle.trace_semantics.proofs.NameLemmas.{name_turned}
use Rattle.trace_part.specs.declared.part_fault.PartCause.{PartCause}
use Rattle.trace_part.specs.Choice.{fault_of_choice, IsChoice}

pub any_more : {A : Type 0} (p : A → Bool) (xs : List A) (x : A) → list_any p (xs ++ x ∷ []) ≡ (p x || list_any p xs)
any_more p [] x = refl
any_more p (y ∷ ys) x = ap (λ b. p y || b) (any_more p ys x) ∙ turned (p y) (p x) (list_any p ys)
  where
    turned : (a b c : Bool) → (a || (b || c)) ≡ (b || (a || c))
    turned true true c = refl
    turned true false c = refl
    turned false true c = refl
    turned false false c = refl

-- the front of a list with one more element
one_more : {A : Type 0} (xs : List A) (k : ℕ) (x : A) → k < length xs → x ≡ get_or xs k x → take (k + 1) xs ≡ take k xs ++ x ∷ []
one_more xs k x l e = take_more xs k x l ∙ ap (λ y. take k xs ++ y ∷ []) (sym e)

pub come_more : (names : List OpName) (k : ℕ) (x n : OpName) (b : Bool) → k < length names → x ≡ get_or names k x → b ≡ has_come (take k names) n → (same_op x n || b) ≡ has_come (take (k + 1) names) n
come_more names k x n b l e h =
    (λ i. name_turned x n i || h i) ∙ sym (any_more (same_op n) (take k names) x) ∙ ap (λ xs. has_come xs n) (sym (one_more names k x l e))

pub choice_more : (t : TraceValue) (names : List OpName) (k : ℕ) (x : OpName) → k < length names → x ≡ get_or names k x → IsChoice t (take k names) → fault_of_choice t (take k names) x ≡ None → IsChoice t (take (k + 1) names)
choice_more t names k x l e done none = subst (λ xs. IsChoice t xs) (sym (one_more names k x l e)) (faultless_push (fault_of_choice t) (take k names) x done none)

pub first_fault : (t : TraceValue) (names : List OpName) (k : ℕ) (x : OpName) (cause : PartCause) → k < length names → x ≡ get_or names k x → IsChoice t (take k names) → fault_of_choice t (take k names) x ≡ Some cause → IsFirstFault (fault_of_choice t) names (k + 1) cause
first_fault t names k x cause l e done fault =
    let long : length (take k names) ≡ k = length_front k names l in
    let rest = cut names k x l e in
    record { before = take k names; item = x; after = rest.0; parts = rest.1; counted = ap (λ j. j + 1) (sym long); faulty = fault; first = done }
  where
    length_front : {A : Type 0} (j : ℕ) (xs : List A) → j < length xs → length (take j xs) ≡ j
    length_front zero xs m = refl
    length_front (suc j) [] m = absurd (omega (arith, m))
    length_front (suc j) (y ∷ ys) m = ap suc (length_front j ys (omega (arith, m)))

    cut : {A : Type 0} (xs : List A) (j : ℕ) (y : A) → j < length xs → y ≡ get_or xs j y → (rest : List A) × (xs ≡ take j xs ++ y ∷ rest)
    cut [] j y m f = absurd (omega (arith, m))
    cut (z ∷ zs) zero y m f = (zs, ap (λ w. w ∷ zs) (sym f))
    cut (z ∷ zs) (suc j) y m f = let more = cut zs j y (omega (arith, m)) f in (more.0, ap (λ l. z ∷ l) more.1)
