-- The numbers of a model, one after the other.
use Rattle.std.proofs.Common.{◌≡◌, ◌≢◌, ◌<◌, inl, inr, ℕ, zero, suc, ℤ, pos, negsuc, neg_ℤ, nat_abs, Bool, true, false, ◌||◌, Some, List, [], ◌∷◌, ◌++◌, map, get_or, refl, sym, ◌∙◌, ap, leb}
use Rattle.std.specs.List.{list_any, Contains}
use Rattle.std.specs.Option.{option_eq}
use Rattle.std.specs.Ordering.{int_eq}
use Rattle.std.proofs.lemmas.Bool.{and_parts, and_from, true≢false, cases_Bool, lt-ltb, or_cases}
use Rattle.std.proofs.lemmas.Bool.Decides.{Decides-int_eq}
use Rattle.std.proofs.lemmas.Cmp.{int_eq_equiv}
use Rattle.std.proofs.lemmas.List.{map_push}
use Rattle.std.proofs.lemmas.List.Folds.{list_any-append, list_all-append}
use Rattle.std.proofs.lemmas.Map.Views.{Contains-from_any, list_any-from_Contains}
use Rattle.std.proofs.lemmas.Option.{option_and_then_some, cond_some}
use Rattle.text_lines.specs.Numbers.{solver_number}
use Rattle.text_lines.proofs.Decimals.IntegerLemmas.{other_integer, twice_negated}
use Rattle.dimacs.specs.Literal.{is_clause, is_literal, most_variable}
use Rattle.model_text.specs.ModelText.{Said, Word, small, model_number}
use Rattle.model_text.specs.ModelFirstFault.{writes}

-- whether the number is in the list
abbrev pub has : List ℤ → ℤ → Bool
has zs z = list_any (int_eq z) zs

pub has_contains : (zs : List ℤ) (z : ℤ) → has zs z ≡ true → Contains zs z
has_contains zs z h = Contains-from_any (λ x y. (Decides-int_eq x y).0) z zs h

pub contains_has : (zs : List ℤ) (z : ℤ) → Contains zs z → has zs z ≡ true
contains_has zs z h = list_any-from_Contains int_eq_equiv z zs h

pub or_false : (b : Bool) → (b || false) ≡ b
or_false true = refl
or_false false = refl

pub has_push : (zs : List ℤ) (z y : ℤ) → has (zs ++ z ∷ []) y ≡ (has zs y || int_eq y z)
has_push zs z y = list_any-append (int_eq y) zs (z ∷ []) ∙ ap (λ b. has zs y || b) (or_false (int_eq y z))

-- a literal is not zero
pub literal_not_zero : (z : ℤ) → is_literal z ≡ true → z ≢ pos 0
literal_not_zero z h e = true≢false (sym h ∙ ap is_literal e)

pub no_zero : (zs : List ℤ) → is_clause zs ≡ true → has zs (pos 0) ≡ false
no_zero [] h = refl
no_zero (z ∷ zs) h =
    let parts = and_parts (is_literal z) (is_clause zs) h in
    λ i. other_integer (pos 0) z (λ e. literal_not_zero z parts.0 (sym e)) i || no_zero zs parts.1 i

-- a number that is not zero is a literal
pub model_literal : (word : List ℕ) (z : ℤ) → model_number word ≡ Some z → 0 < nat_abs z → is_literal z ≡ true
model_literal word z m above =
    option_and_then_some small (solver_number word) z m (λ y number kept.
    let found = cond_some (leb (nat_abs y) most_variable) y z kept in
    and_from _ _ (lt-ltb 0 (nat_abs z) above) (ap (λ n. leb (nat_abs n) most_variable) (sym found.1) ∙ found.0))

pub not_own_negation : (z : ℤ) → is_literal z ≡ true → neg_ℤ z ≢ z
not_own_negation (pos zero) h e = absurd (cc)
not_own_negation (pos (suc n)) h e = absurd (cc)
not_own_negation (negsuc n) h e = absurd (cc)

-- no literal stands beside its negation
abbrev pub NoClash : List ℤ → Type 0
NoClash zs = (z : ℤ) → has zs z ≡ true → has zs (neg_ℤ z) ≡ false

pub no_clash_push : (zs : List ℤ) (z : ℤ) → NoClash zs → is_literal z ≡ true → has zs (neg_ℤ z) ≡ false → NoClash (zs ++ z ∷ [])
no_clash_push zs z none literal free y h =
    has_push zs z (neg_ℤ y) ∙
    elim (or_cases (has zs y) (int_eq y z) (sym (has_push zs z y) ∙ h)) [
      | inl before ↦ (λ i. none y before i || other_integer (neg_ℤ y) z (λ e. true≢false (sym before ∙ ap (has zs) (sym (twice_negated y) ∙ ap neg_ℤ e) ∙ free)) i)
      | inr now ↦ (
          let same = (Decides-int_eq y z).0 now in
          (λ i. has zs (neg_ℤ (same i)) || int_eq (neg_ℤ (same i)) z) ∙ (λ i. free i || other_integer (neg_ℤ z) z (not_own_negation z literal) i))
    ]

-- these things are words, whose numbers are these literals
pub record AreOpen (before : List (ℕ × Said)) (words : List (List ℕ)) (zs : List ℤ) : Type 0 where
  pub found : (z : ℤ) → list_any (writes z) before ≡ has zs z
  pub numbers : map model_number words ≡ map Some zs
  pub written : is_clause zs ≡ true
  pub apart : NoClash zs

pub none_open : AreOpen [] [] []
none_open = record { found = λ z. refl; numbers = refl; written = refl; apart = λ z h. refl }

pub found_push : (before : List (ℕ × Said)) (zs : List ℤ) (line : ℕ) (word : List ℕ) (z : ℤ) → ((y : ℤ) → list_any (writes y) before ≡ has zs y) → model_number word ≡ Some z →
    (y : ℤ) → list_any (writes y) (before ++ (line, Word word) ∷ []) ≡ has (zs ++ z ∷ []) y
found_push before zs line word z found m y =
    list_any-append (writes y) before ((line, Word word) ∷ [])
    ∙ (λ i. found y i || (option_eq int_eq (Some y) (m i) || false))
    ∙ sym (list_any-append (int_eq y) zs (z ∷ []))

pub open_push : (before : List (ℕ × Said)) (words : List (List ℕ)) (zs : List ℤ) (line : ℕ) (word : List ℕ) (z : ℤ) → AreOpen before words zs → model_number word ≡ Some z → is_literal z ≡ true → has zs (neg_ℤ z) ≡ false →
    AreOpen (before ++ (line, Word word) ∷ []) (words ++ word ∷ []) (zs ++ z ∷ [])
open_push before words zs line word z h m literal free = record {
  found = found_push before zs line word z h.found m;
  numbers = map_push model_number words word ∙ (λ i. h.numbers i ++ m i ∷ []) ∙ sym (map_push Some zs z);
  written = list_all-append is_literal zs (z ∷ []) ∙ and_from _ _ h.written (and_from _ true literal refl);
  apart = no_clash_push zs z h.apart literal free;
}

-- the list with `true` at this place
abbrev raised : ℕ → List Bool → List Bool
raised zero [] = true ∷ []
raised zero (b ∷ bs) = true ∷ bs
raised (suc k) [] = false ∷ raised k []
raised (suc k) (b ∷ bs) = b ∷ raised k bs

raised_at : (k : ℕ) (bs : List Bool) → get_or (raised k bs) k false ≡ true
raised_at zero [] = refl
raised_at zero (b ∷ bs) = refl
raised_at (suc k) [] = raised_at k []
raised_at (suc k) (b ∷ bs) = raised_at k bs

raised_off : (k : ℕ) (bs : List Bool) (j : ℕ) → j ≢ k → get_or (raised k bs) j false ≡ get_or bs j false
raised_off zero [] zero apart = absurd (apart refl)
raised_off zero [] (suc j) apart = refl
raised_off zero (b ∷ bs) zero apart = absurd (apart refl)
raised_off zero (b ∷ bs) (suc j) apart = refl
raised_off (suc k) [] zero apart = refl
raised_off (suc k) [] (suc j) apart = raised_off k [] j (λ e. apart (ap suc e))
raised_off (suc k) (b ∷ bs) zero apart = refl
raised_off (suc k) (b ∷ bs) (suc j) apart = raised_off k bs j (λ e. apart (ap suc e))

-- truth values for the positive ones
abbrev pub values_of : List ℤ → List Bool
values_of [] = []
values_of (pos zero ∷ zs) = values_of zs
values_of (pos (suc k) ∷ zs) = raised k (values_of zs)
values_of (negsuc k ∷ zs) = values_of zs

pub values_found : (zs : List ℤ) (k : ℕ) → get_or (values_of zs) k false ≡ has zs (pos (suc k))
values_found [] k = refl
values_found (pos zero ∷ zs) k = values_found zs k ∙ ap (λ b. b || has zs (pos (suc k))) (sym (other_integer (pos (suc k)) (pos 0) (λ e. absurd (cc))))
values_found (negsuc j ∷ zs) k = values_found zs k ∙ ap (λ b. b || has zs (pos (suc k))) (sym (other_integer (pos (suc k)) (negsuc j) (λ e. absurd (cc))))
values_found (pos (suc j) ∷ zs) k =
    elim (cases_Bool (int_eq (pos (suc k)) (pos (suc j)))) [
      | inl same ↦ (
          let places : k ≡ j = let numbers = (Decides-int_eq (pos (suc k)) (pos (suc j))).0 same in cc in
          ap (λ n. get_or (raised j (values_of zs)) n false) places ∙ raised_at j (values_of zs) ∙ ap (λ b. b || has zs (pos (suc k))) (sym same))
      | inr other ↦ raised_off j (values_of zs) k (λ e. true≢false (sym ((Decides-int_eq (pos (suc k)) (pos (suc j))).1 (ap (λ n. pos (suc n)) e)) ∙ other)) ∙ values_found zs k ∙ ap (λ b. b || has zs (pos (suc k))) (sym other)
    ]
