-- The literals of a clause but the pivot's negation, with one more literal.
use Rattle.std.proofs.Common.{◌≡◌, ℕ, ◌+◌, ◌<◌, Bool, true, false, cond, List, [], ◌∷◌, ◌++◌, ◌||◌, length, take, get_or, refl, ap, sym, ◌∙◌, append_assoc}
use Rattle.std.specs.List.{list_any}
use Rattle.std.proofs.lemmas.List.{map-append}
use Rattle.std.proofs.lemmas.List.Folds.{list_any-append}
use Rattle.lrat_check.specs.Propagation.{has}
use Rattle.lrat_check.specs.Refuted.{negated}
use Rattle.lrat_check.proofs.Justifying.PropagationLemmas.{take_item}
use Rattle.std.specs.Prelude.{ℤ, neg_ℤ}
use Rattle.std.specs.Ordering.{int_eq}
use Rattle.lrat_check.specs.Rat.{others}

cond_append : (b : Bool) (xs ys : List ℤ) (y : ℤ) → cond b xs (y ∷ xs) ++ ys ≡ cond b (xs ++ ys) (y ∷ (xs ++ ys))
cond_append true xs ys y = refl
cond_append false xs ys y = refl

pub others_push : (pivot : ℤ) (clause : List ℤ) (x : ℤ) → others pivot (clause ++ x ∷ []) ≡ others pivot clause ++ others pivot (x ∷ [])
others_push pivot [] x = refl
others_push pivot (y ∷ clause) x =
    let same = int_eq y (neg_ℤ pivot) in
    (λ i. cond same (others_push pivot clause x i) (y ∷ others_push pivot clause x i))
    ∙ sym (cond_append same (others pivot clause) (cond (int_eq x (neg_ℤ pivot)) [] (x ∷ [])) y)

-- the first literals of a clause, with one more
pub others_more : (pivot : ℤ) (clause : List ℤ) (i : ℕ) (x : ℤ) → i < length clause → x ≡ get_or clause i x → others pivot (take (i + 1) clause) ≡ others pivot (take i clause) ++ others pivot (x ∷ [])
others_more pivot clause i x h e = ap (others pivot) (take_item clause i x h e) ∙ others_push pivot (take i clause) x

pub assumed_more : (trues new : List ℤ) (pivot : ℤ) (clause : List ℤ) (i : ℕ) (x : ℤ) (first : List ℤ) → i < length clause → x ≡ get_or clause i x → trues ≡ first ++ negated (others pivot (take i clause)) →
    new ≡ trues ++ negated (others pivot (x ∷ [])) → new ≡ first ++ negated (others pivot (take (i + 1) clause))
assumed_more trues new pivot clause i x first h e so pushed =
    pushed ∙ ap (λ t. t ++ negated (others pivot (x ∷ []))) so
    ∙ append_assoc first (negated (others pivot (take i clause))) (negated (others pivot (x ∷ [])))
    ∙ ap (λ t. first ++ t) (sym (map-append neg_ℤ (others pivot (take i clause)) (others pivot (x ∷ []))) ∙ ap negated (sym (others_more pivot clause i x h e)))

pub any_more : (trues : List ℤ) (pivot : ℤ) (clause : List ℤ) (i : ℕ) (x : ℤ) → i < length clause → x ≡ get_or clause i x →
    list_any (has trues) (others pivot (take (i + 1) clause)) ≡ (list_any (has trues) (others pivot (take i clause)) || list_any (has trues) (others pivot (x ∷ [])))
any_more trues pivot clause i x h e =
    ap (list_any (has trues)) (others_more pivot clause i x h e) ∙ list_any-append (has trues) (others pivot (take i clause)) (others pivot (x ∷ []))
