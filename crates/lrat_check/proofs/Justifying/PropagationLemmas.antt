-- Clauses under a list of true literals, with one more literal.
use Rattle.std.proofs.Common.{◌≡◌, ◌≢◌, ◌⊎◌, ℕ, Bool, true, false, List, [], ◌∷◌, ◌++◌, map, refl, ap, sym, ◌∙◌, ◌||◌, inl, inr, ◌+◌, ◌<◌, length, take, drop, get_or}
use Rattle.std.specs.Prelude.{ℤ, pos, negsuc, neg_ℤ, zero, suc}
use Rattle.std.specs.List.{list_any, list_all}
use Rattle.std.specs.Ordering.{int_eq}
use Rattle.std.proofs.lemmas.Bool.{cases_Bool, or_cases, or_left, or_right, and_from, and_parts, false≢true, true≢false, false_from_ne_true}
use Rattle.std.proofs.lemmas.Bool.Decides.{Decides-int_eq, Decides-like, same_from_decides}
use Rattle.std.proofs.lemmas.List.{take_more, map_push, take-append-drop}
use Rattle.lrat_check.specs.Standing.{IsAssumed}
use Rattle.dimacs.specs.Literal.{is_literal, is_clause}
use Rattle.std.proofs.lemmas.List.Folds.{list_any-append, list_all-append, list_any_at}
use Rattle.text_lines.proofs.Decimals.IntegerLemmas.{same_integer, twice_negated}
use Rattle.lrat_check.specs.Propagation.{has, is_tautology, is_falsified, Falsifies, IsUnit, HasTwoUnfalsified}

-- equality of literals
pub int_same : (y z : ℤ) → int_eq y z ≡ true → y ≡ z
int_same y z h = (Decides-int_eq y z).0 h

-- what is among one more literal
pub has_push : (clause : List ℤ) (x z : ℤ) → has (clause ++ x ∷ []) z ≡ (has clause z || (int_eq x z || false))
has_push clause x z = list_any-append (λ y. int_eq y z) clause (x ∷ [])

pub has_old : (clause : List ℤ) (x z : ℤ) → has clause z ≡ true → has (clause ++ x ∷ []) z ≡ true
has_old clause x z h = has_push clause x z ∙ or_left (has clause z) (int_eq x z || false) h

pub has_new : (clause : List ℤ) (x : ℤ) → has (clause ++ x ∷ []) x ≡ true
has_new clause x = has_push clause x x ∙ or_right (has clause x) (int_eq x x || false) (or_left (int_eq x x) false (same_integer x))

pub has_cases : (clause : List ℤ) (x z : ℤ) → has (clause ++ x ∷ []) z ≡ true → (has clause z ≡ true) ⊎ (x ≡ z)
has_cases clause x z h =
    elim (or_cases (has clause z) (int_eq x z || false) (sym (has_push clause x z) ∙ h)) [
      | inl old ↦ inl old
      | inr new ↦ elim (or_cases (int_eq x z) false new) [ inl same ↦ inr (int_same x z same) | inr never ↦ absurd (false≢true never) ]
    ]

-- a literal that is among those that all pass passes
pub each_has : (p : ℤ → Bool) (clause : List ℤ) (z : ℤ) → list_all p clause ≡ true → has clause z ≡ true → p z ≡ true
each_has p [] z all h = absurd (false≢true h)
each_has p (y ∷ clause) z all h =
    let parts = and_parts (p y) (list_all p clause) all in
    elim (or_cases (int_eq y z) (has clause z) h) [
      | inl same ↦ ap p (sym (int_same y z same)) ∙ parts.0
      | inr later ↦ each_has p clause z parts.1 later
    ]

-- one more literal that is false
pub falsified_more : (trues clause : List ℤ) (x : ℤ) → Falsifies trues clause → is_falsified trues x ≡ true → Falsifies trues (clause ++ x ∷ [])
falsified_more trues clause x h e = list_all-append (is_falsified trues) clause (x ∷ []) ∙ and_from _ _ h (and_from _ true e refl)

pub unit_more : (trues clause : List ℤ) (unit x : ℤ) → IsUnit trues clause unit → is_falsified trues x ≡ true → IsUnit trues (clause ++ x ∷ []) unit
unit_more trues clause unit x h e = record {
  among = has_old clause x unit h.among;
  unfalsified = h.unfalsified;
  alone = λ z in_it un. elim (has_cases clause x z in_it) [
    | inl old ↦ h.alone z old un
    | inr same ↦ absurd (true≢false (sym e ∙ ap (is_falsified trues) same ∙ un))
  ];
}

pub two_more : (trues clause : List ℤ) (x : ℤ) → HasTwoUnfalsified trues clause → HasTwoUnfalsified trues (clause ++ x ∷ [])
two_more trues clause x h = record {
  one = h.one;
  other = h.other;
  distinct = h.distinct;
  one_among = has_old clause x h.one h.one_among;
  other_among = has_old clause x h.other h.other_among;
  one_unfalsified = h.one_unfalsified;
  other_unfalsified = h.other_unfalsified;
}

-- one more literal that is not false
pub first_unit : (trues clause : List ℤ) (x : ℤ) → Falsifies trues clause → is_falsified trues x ≡ false → IsUnit trues (clause ++ x ∷ []) x
first_unit trues clause x h e = record {
  among = has_new clause x;
  unfalsified = e;
  alone = λ z in_it un. elim (has_cases clause x z in_it) [
    | inl old ↦ absurd (true≢false (sym (each_has (is_falsified trues) clause z h old) ∙ un))
    | inr same ↦ sym same
  ];
}

pub same_unit : (trues clause : List ℤ) (unit x : ℤ) → IsUnit trues clause unit → unit ≡ x → IsUnit trues (clause ++ x ∷ []) unit
same_unit trues clause unit x h e = record {
  among = has_old clause x unit h.among;
  unfalsified = h.unfalsified;
  alone = λ z in_it un. elim (has_cases clause x z in_it) [ inl old ↦ h.alone z old un | inr same ↦ sym same ∙ sym e ];
}

pub second_unfalsified : (trues clause : List ℤ) (unit x : ℤ) → IsUnit trues clause unit → unit ≢ x → is_falsified trues x ≡ false → HasTwoUnfalsified trues (clause ++ x ∷ [])
second_unfalsified trues clause unit x h apart e = record {
  one = unit;
  other = x;
  distinct = apart;
  one_among = has_old clause x unit h.among;
  other_among = has_new clause x;
  one_unfalsified = h.unfalsified;
  other_unfalsified = e;
}

-- the first literals with one more
pub take_item : (clause : List ℤ) (i : ℕ) (x : ℤ) → i < length clause → x ≡ get_or clause i x → take (i + 1) clause ≡ take i clause ++ x ∷ []
take_item clause i x h e = take_more clause i x h ∙ ap (λ y. take i clause ++ y ∷ []) (sym e)

-- negations
neg_same : (y z : ℤ) → neg_ℤ y ≡ neg_ℤ z → y ≡ z
neg_same y z e = sym (twice_negated y) ∙ ap neg_ℤ e ∙ twice_negated z

int_eq_neg : (y z : ℤ) → int_eq (neg_ℤ y) (neg_ℤ z) ≡ int_eq y z
int_eq_neg y z = same_from_decides (int_eq (neg_ℤ y) (neg_ℤ z)) (int_eq y z) (Decides-like (int_eq (neg_ℤ y) (neg_ℤ z)) (neg_same y z) (ap neg_ℤ) (Decides-int_eq (neg_ℤ y) (neg_ℤ z))) (Decides-int_eq y z)

pub has_negated : (clause : List ℤ) (z : ℤ) → has (map neg_ℤ clause) (neg_ℤ z) ≡ has clause z
has_negated [] z = refl
has_negated (y ∷ clause) z = λ i. int_eq_neg y z i || has_negated clause z i

-- where the negations of literals are true, those are false, and the negation of a literal is false where the literal is among them
pub falsified_negation : (clause : List ℤ) (z : ℤ) → is_falsified (map neg_ℤ clause) (neg_ℤ z) ≡ has clause (neg_ℤ z)
falsified_negation clause z = has_negated clause (neg_ℤ z)

-- a literal is not its negation, since it is not 0
literal_apart : (z : ℤ) → is_literal z ≡ true → z ≢ neg_ℤ z
literal_apart (pos zero) h e = absurd (false≢true h)
literal_apart (pos (suc n)) h e = absurd (cc)
literal_apart (negsuc n) h e = absurd (cc)

-- some literal passes
pub any_has : (p : ℤ → Bool) (clause : List ℤ) → list_any p clause ≡ true → (z : ℤ) × (has clause z ≡ true) × (p z ≡ true)
any_has p [] h = absurd (false≢true h)
any_has p (y ∷ clause) h =
    elim (or_cases (p y) (list_any p clause) h) [
      | inl here ↦ (y, or_left (int_eq y y) (has clause y) (same_integer y), here)
      | inr later ↦ (let found = any_has p clause later in (found.0, or_right (int_eq y found.0) (has clause found.0) found.1, found.2))
    ]

pub has_any : (p : ℤ → Bool) (clause : List ℤ) (z : ℤ) → has clause z ≡ true → p z ≡ true → list_any p clause ≡ true
has_any p [] z h e = absurd (false≢true h)
has_any p (y ∷ clause) z h e =
    elim (or_cases (int_eq y z) (has clause z) h) [
      | inl same ↦ or_left (p y) (list_any p clause) (ap p (int_same y z same) ∙ e)
      | inr later ↦ or_right (p y) (list_any p clause) (has_any p clause z later e)
    ]

-- a literal and its negation
pub taut_pair : (clause : List ℤ) → is_tautology clause ≡ true → (z : ℤ) × (has clause z ≡ true) × (has clause (neg_ℤ z) ≡ true)
taut_pair clause h = any_has (λ z. has clause (neg_ℤ z)) clause h

pub pair_taut : (clause : List ℤ) (z : ℤ) → has clause z ≡ true → has clause (neg_ℤ z) ≡ true → is_tautology clause ≡ true
pair_taut clause z h k = has_any (λ z. has clause (neg_ℤ z)) clause z h k

has_at : (clause : List ℤ) (i : ℕ) (x : ℤ) → i < length clause → x ≡ get_or clause i x → has clause x ≡ true
has_at clause i x h e = list_any_at (λ y. int_eq y x) clause i x h (ap (λ y. int_eq y x) (sym e) ∙ same_integer x)

has_front : (clause : List ℤ) (i : ℕ) (z : ℤ) → has (take i clause) z ≡ true → has clause z ≡ true
has_front clause i z h =
    ap (λ l. has l z) (sym (take-append-drop i clause)) ∙ list_any-append (λ y. int_eq y z) (take i clause) (drop i clause) ∙ or_left (has (take i clause) z) (has (drop i clause) z) h

-- the next literal's negation is among those before it
pub taut_found : (clause : List ℤ) (i : ℕ) (x : ℤ) → i < length clause → x ≡ get_or clause i x → has (take i clause) (neg_ℤ x) ≡ true → is_tautology clause ≡ true
taut_found clause i x h e k = pair_taut clause x (has_at clause i x h e) (has_front clause i (neg_ℤ x) k)

-- one more literal, whose negation is not among those before it
taut_push : (clause : List ℤ) (x : ℤ) → is_literal x ≡ true → is_tautology clause ≡ false → has clause (neg_ℤ x) ≡ false → is_tautology (clause ++ x ∷ []) ≡ false
taut_push clause x lit never none = false_from_ne_true (is_tautology (clause ++ x ∷ [])) (λ holds.
    let pair = taut_pair (clause ++ x ∷ []) holds in
    elim (has_cases clause x pair.0 pair.1) [
      | inl old ↦ elim (has_cases clause x (neg_ℤ pair.0) pair.2) [
        | inl both ↦ false≢true (sym never ∙ pair_taut clause pair.0 old both)
        | inr new ↦ (let same : neg_ℤ x ≡ pair.0 = ap neg_ℤ new ∙ twice_negated pair.0 in false≢true (sym none ∙ ap (has clause) same ∙ old))
      ]
      | inr same ↦ elim (has_cases clause x (neg_ℤ pair.0) pair.2) [
        | inl old ↦ false≢true (sym none ∙ ap (λ z. has clause (neg_ℤ z)) same ∙ old)
        | inr new ↦ literal_apart x lit (new ∙ ap neg_ℤ (sym same))
      ]
    ])

-- what is assumed so far, with one more literal
pub assume_more : (clause trues new : List ℤ) (i : ℕ) (x : ℤ) → i < length clause → x ≡ get_or clause i x → is_clause clause ≡ true → IsAssumed (take i clause) trues false →
    is_falsified trues (neg_ℤ x) ≡ false → new ≡ trues ++ neg_ℤ x ∷ [] → IsAssumed (take (i + 1) clause) new false
assume_more clause trues new i x h e all so un pushed =
    let more = take_item clause i x h e in
    let none : has (take i clause) (neg_ℤ x) ≡ false = sym (falsified_negation (take i clause) x) ∙ ap (λ t. is_falsified t (neg_ℤ x)) (sym so.1) ∙ un in
    let lit : is_literal x ≡ true = each_has is_literal clause x all (has_at clause i x h e) in
    (ap is_tautology more ∙ taut_push (take i clause) x lit so.0 none, pushed ∙ ap (λ t. t ++ neg_ℤ x ∷ []) so.1 ∙ sym (map_push neg_ℤ (take i clause) x) ∙ ap (map neg_ℤ) (sym more))

pub assume_found : (clause trues : List ℤ) (i : ℕ) (x : ℤ) → i < length clause → x ≡ get_or clause i x → IsAssumed (take i clause) trues false → is_falsified trues (neg_ℤ x) ≡ true → is_tautology clause ≡ true
assume_found clause trues i x h e so un =
    taut_found clause i x h e (sym (falsified_negation (take i clause) x) ∙ ap (λ t. is_falsified t (neg_ℤ x)) (sym so.1) ∙ un)

pub cases_same : (y z : ℤ) → (y ≡ z) ⊎ (y ≢ z)
cases_same y z = elim (cases_Bool (int_eq y z)) [ inl same ↦ inl (int_same y z same) | inr apart ↦ inr (λ e. true≢false (sym (same_integer z) ∙ ap (λ x. int_eq x z) (sym e) ∙ apart)) ]
