-- Literals and models over lists that the code walks along.
use Rattle.std.proofs.Common.{◌≡◌, ℕ, zero, suc, ◌+◌, ◌<◌, ◌≤◌, ℤ, pos, negsuc, neg_ℤ, Bool, true, false, not, IsFalse, Option, Some, None, ◌⊎◌, List, [], ◌∷◌, ◌++◌, length, take, drop, get_or, refl, sym, ◌∙◌, ap, cond, position, inl, inr, arith}
use Rattle.std.specs.List.{list_all, position_or_len}
use Rattle.std.proofs.lemmas.Bool.{and_from, and_parts, not-true, not-false, true≢false, lt-ltb, cases_lt}
use Rattle.std.proofs.lemmas.Option.{none-some}
use Rattle.std.proofs.lemmas.List.{take-append-drop, length-take-le, drop_more, take_all}
use Rattle.std.proofs.lemmas.List.Folds.{list_all-append}
use Rattle.std.proofs.lemmas.List.Quantifiers.{position-Some}
use Rattle.std.proofs.lemmas.List.Sums.{fails_before_first}
use Rattle.dimacs.specs.Assignment.{makes_true, makes_some}
use Rattle.dimacs.specs.Literal.{is_literal}
use Rattle.dimacs.specs.Models.{IsModel, IsFirstFalse}
use Rattle.text_lines.proofs.FaultLemmas.{compared}
use Rattle.text_lines.proofs.BoolLemmas.{not_not}

-- all elements before a place pass
all_before : {X : Type 0} (test : X → Bool) (xs : List X) (k : ℕ) (d : X) → ((j : ℕ) → j < k → not (test (get_or xs j d)) ≡ false) → list_all test (take k xs) ≡ true
all_before test xs zero d h = refl
all_before test [] (suc k) d h = refl
all_before test (x ∷ xs) (suc k) d h = and_from _ _ (not-false _ (h 0 (omega arith))) (all_before test xs k d (λ j l. h (suc j) (omega (arith, l))))

-- a list is what stands before a place, the element there, and the rest
parted : {X : Type 0} (xs : List X) (k : ℕ) (d : X) → k < length xs → xs ≡ take k xs ++ get_or xs k d ∷ drop (k + 1) xs
parted xs k d within = sym (take-append-drop k xs) ∙ ap (λ rest. take k xs ++ rest) (drop_more xs k d within)

-- the clause at a place has no true literal, and each one before it has
pub first_here : (value : ℕ → Bool) (clauses : List (List ℤ)) (k : ℕ) → k < length clauses → list_all (makes_some value) (take k clauses) ≡ true → makes_some value (get_or clauses k []) ≡ false → IsFirstFalse value clauses (k + 1)
first_here value clauses k within h untrue = record {
  before = take k clauses;
  clause = get_or clauses k [];
  after = drop (k + 1) clauses;
  parts = parted clauses k [] within;
  counted = ap (λ n. n + 1) (sym (length-take-le k clauses (omega (arith, within))));
  untrue = untrue;
  first = h;
}

-- the first place at which no literal is true
pub first_at : (value : ℕ → Bool) (clauses : List (List ℤ)) (k : ℕ) → position (λ clause. not (makes_some value clause)) clauses ≡ Some k → IsFirstFalse value clauses (k + 1)
first_at value clauses k e =
    let s = position-Some (λ clause. not (makes_some value clause)) clauses k [] e in
    first_here value clauses k s.0 (all_before (makes_some value) clauses k [] s.2) (not-true _ s.1)

-- none is found only past the end
past_end : {X : Type 0} (test : X → Bool) (xs : List X) → position test xs ≡ None → length xs ≤ position_or_len test xs
past_end test xs e = elim (cases_lt (position_or_len test xs) (length xs)) [ inl l ↦ absurd (none-some _ (sym e ∙ ap (λ b. cond b (Some (position_or_len test xs)) None) (lt-ltb _ _ l))) | inr l ↦ l ]

-- where no such place is found
pub model_at : (value : ℕ → Bool) (clauses : List (List ℤ)) → position (λ clause. not (makes_some value clause)) clauses ≡ None → IsModel value clauses
model_at value clauses e =
    let end = past_end (λ clause. not (makes_some value clause)) clauses e in
    ap (list_all (makes_some value)) (sym (take_all (length clauses) clauses (omega arith)))
    ∙ all_before (makes_some value) clauses (length clauses) [] (λ j l. fails_before_first (λ clause. not (makes_some value clause)) clauses j [] (omega (arith, l, end)))

-- no model has a first false clause
pub no_model : (value : ℕ → Bool) (clauses : List (List ℤ)) (place : ℕ) → IsFirstFalse value clauses place → IsModel value clauses → ⊥
no_model value clauses place f m =
    let whole : list_all (makes_some value) (f.before ++ f.clause ∷ f.after) ≡ true = ap (list_all (makes_some value)) (sym f.parts) ∙ m in
    let rest = (and_parts _ _ (sym (list_all-append (makes_some value) f.before (f.clause ∷ f.after)) ∙ whole)).1 in
    true≢false (sym ((and_parts _ _ rest).0) ∙ f.untrue)

-- there is such a place, or there is none
by_position : (value : ℕ → Bool) (clauses : List (List ℤ)) (found : Option ℕ) → position (λ clause. not (makes_some value clause)) clauses ≡ found → IsModel value clauses ⊎ ((place : ℕ) × IsFirstFalse value clauses place)
by_position value clauses None e = inl (model_at value clauses e)
by_position value clauses (Some k) e = inr (k + 1, first_at value clauses k e)

pub model_or_first : (value : ℕ → Bool) (clauses : List (List ℤ)) → IsModel value clauses ⊎ ((place : ℕ) × IsFirstFalse value clauses place)
model_or_first value clauses = by_position value clauses (position (λ clause. not (makes_some value clause)) clauses) refl

-- a false clause does not stand among true ones
never_within : (value : ℕ → Bool) (before rest : List (List ℤ)) (clause : List ℤ) (front : List (List ℤ)) → IsFalse (makes_some value clause) → IsModel value front → front ≡ before ++ clause ∷ rest → ⊥
never_within value before rest clause front untrue model e =
    let whole : list_all (makes_some value) (before ++ clause ∷ rest) ≡ true = ap (list_all (makes_some value)) (sym e) ∙ model in
    let there = (and_parts _ _ (sym (list_all-append (makes_some value) before (clause ∷ rest)) ∙ whole)).1 in
    true≢false (sym ((and_parts _ _ there).0) ∙ untrue)

pub one_first_false : (value : ℕ → Bool) (clauses : List (List ℤ)) (p q : ℕ) → IsFirstFalse value clauses p → IsFirstFalse value clauses q → p ≡ q
one_first_false value clauses p q f g =
    elim (compared f.before g.before f.clause g.clause f.after g.after (sym f.parts ∙ g.parts)) [
      | inl same ↦ f.counted ∙ ap (λ l. length l + 1) same.0 ∙ sym g.counted
      | inr (inl (m, e)) ↦ absurd (never_within value f.before m f.clause g.before f.untrue g.first e)
      | inr (inr (m, e)) ↦ absurd (never_within value g.before m g.clause f.before g.untrue f.first e)
    ]

-- a literal and its negation have opposite truth values
pub opposite : (value : ℕ → Bool) (z : ℤ) → is_literal z ≡ true → makes_true value (neg_ℤ z) ≡ not (makes_true value z)
opposite value (pos zero) h = absurd cc
opposite value (pos (suc n)) h = refl
opposite value (negsuc n) h = sym (not_not (value (suc n)))
