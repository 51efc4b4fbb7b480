-- Literals that became true, one after the other.
use Rattle.std.proofs.Common.{◌≡◌, ℕ, Bool, true, false, not, cond, eqb, ◌||◌, ◌&&◌, List, [], ◌∷◌, ◌++◌, length, map, take, refl, ap, sym, ◌∙◌, inl, inr, append_assoc, append-nil}
use Rattle.std.specs.Prelude.{ℤ}
use Rattle.std.specs.Ordering.{int_eq}
use Rattle.std.proofs.lemmas.Bool.{cases_Bool, eq-eqb, ne_eqb, true≢false, not-true}
use Rattle.std.proofs.lemmas.List.{map-append, same_from_push}
use Rattle.lrat_check.specs.Marks.{place_of}
use Rattle.lrat_check.specs.Propagation.{has, Extends}
use Rattle.lrat_check.specs.Trail.{literals_of, novelties, IsTrail}
use Rattle.lrat_check.specs.declared.true_literals.TrueLiteral.{TrueLiteral}
use Rattle.lrat_check.proofs.Counting.CountLemmas.{place_same}
use Rattle.lrat_check.proofs.Justifying.PropagationLemmas.{has_push, int_same}

novelties_push : (before literals : List ℤ) (x : ℤ) → novelties before (literals ++ x ∷ []) ≡ novelties before literals ++ not (has (before ++ literals) x) ∷ []
novelties_push before [] x = ap (λ l. not (has l x) ∷ []) (sym (append-nil before))
novelties_push before (z ∷ literals) x =
    ap (λ l. not (has before z) ∷ l)
    (novelties_push (before ++ z ∷ []) literals x ∙ ap (λ l. novelties (before ++ z ∷ []) literals ++ not (has l x) ∷ []) (append_assoc before (z ∷ []) literals))

literals_push : (trail : List TrueLiteral) (entry : TrueLiteral) → literals_of (trail ++ entry ∷ []) ≡ literals_of trail ++ entry.literal ∷ []
literals_push trail entry = map-append (λ (e : TrueLiteral). e.literal) trail (entry ∷ [])

-- one more
marked_more : (old same : Bool) → cond same true old ≡ (old || (same || false))
marked_more true true = refl
marked_more true false = refl
marked_more false true = refl
marked_more false false = refl

pub trail_more : (trail : List TrueLiteral) (entry : TrueLiteral) (old new : ℕ → Bool) → IsTrail trail old → entry.is_new ≡ not (old (place_of entry.literal)) →
    ((k : ℕ) → new k ≡ cond (eqb (place_of entry.literal) k) true (old k)) → IsTrail (trail ++ entry ∷ []) new
trail_more trail entry old new h e marks =
    let literals = literals_push trail entry in
    let x = entry.literal in (
      λ z. marks (place_of z) ∙ (λ i. cond (place_same x z i) true (h.0 z i)) ∙ marked_more (has (literals_of trail) z) (int_eq x z) ∙ sym (has_push (literals_of trail) x z) ∙ ap (λ l. has l z) (sym literals),
      map-append (λ (other : TrueLiteral). other.is_new) trail (entry ∷ [])
          ∙ (λ i. h.1 i ++ (e ∙ ap not (h.0 x)) i ∷ [])
          ∙ sym (novelties_push [] (literals_of trail) x)
          ∙ ap (novelties []) (sym literals),
    )

-- the same marks
pub trail_same : (trail : List TrueLiteral) (old new : ℕ → Bool) → IsTrail trail old → ((k : ℕ) → new k ≡ old k) → IsTrail trail new
trail_same trail old new h same = ((λ z. same (place_of z) ∙ h.0 z), h.1)

-- one more that is taken back at once
pub taken_back : (trail front now : List TrueLiteral) (entry : TrueLiteral) (count : ℕ) → count ≡ length trail → front ≡ trail ++ entry ∷ [] → now ≡ take count front → now ≡ trail
taken_back trail front now entry count e f h = h ∙ (λ i. take (e i) (f i)) ∙ all_of trail
  where
    all_of : (xs : List TrueLiteral) → take (length xs) (xs ++ entry ∷ []) ≡ xs
    all_of [] = refl
    all_of (x ∷ xs) = ap (λ l. x ∷ l) (all_of xs)

-- one less
taken_new : (old same : Bool) → (same ≡ true → old ≡ false) → ((old || (same || false)) && not same) ≡ old
taken_new true true h = absurd (true≢false (h refl))
taken_new true false h = refl
taken_new false true h = refl
taken_new false false h = refl

kept_old : (old same : Bool) → (same ≡ true → old ≡ true) → (old || (same || false)) ≡ old
kept_old true true h = refl
kept_old true false h = refl
kept_old false true h = sym (h refl)
kept_old false false h = refl

place_turned : (x z : ℤ) → eqb (place_of z) (place_of x) ≡ int_eq x z
place_turned x z = elim (cases_Bool (int_eq x z)) [
  | inl same ↦ eq-eqb (place_of z) (place_of x) (ap place_of (sym (int_same x z same))) ∙ sym same
  | inr apart ↦ ne_eqb (place_of z) (place_of x) (λ e. true≢false (sym (eq-eqb (place_of x) (place_of z) (sym e)) ∙ place_same x z ∙ apart)) ∙ sym apart
]

unmarked : (is_new had : Bool) (literals : List ℤ) (x z : ℤ) → is_new ≡ not (has literals x) → had ≡ has (literals ++ x ∷ []) z →
    cond is_new (had && not (eqb (place_of z) (place_of x))) had ≡ has literals z
unmarked true had literals x z e h =
    let none : has literals x ≡ false = not-true (has literals x) (sym e) in
    (λ i. (h ∙ has_push literals x z) i && not (place_turned x z i)) ∙ taken_new (has literals z) (int_eq x z) (λ same. ap (has literals) (sym (int_same x z same)) ∙ none)
unmarked false had literals x z e h =
    let some : has literals x ≡ true = elim (cases_Bool (has literals x)) [ inl there ↦ there | inr missing ↦ absurd (true≢false (sym (ap not missing) ∙ sym e)) ] in
    h ∙ has_push literals x z ∙ kept_old (has literals z) (int_eq x z) (λ same. ap (has literals) (sym (int_same x z same)) ∙ some)

pub trail_less : (trail : List TrueLiteral) (entry : TrueLiteral) (old new : ℕ → Bool) → IsTrail (trail ++ entry ∷ []) old →
    ((k : ℕ) → new k ≡ cond entry.is_new (old k && not (eqb k (place_of entry.literal))) (old k)) → IsTrail trail new
trail_less trail entry old new h marks =
    let x = entry.literal in
    let literals = literals_push trail entry in
    let split = same_from_push (map (λ (other : TrueLiteral). other.is_new) trail) (novelties [] (literals_of trail)) entry.is_new (not (has (literals_of trail) x))
    (sym (map-append (λ (other : TrueLiteral). other.is_new) trail (entry ∷ [])) ∙ h.1 ∙ ap (novelties []) literals ∙ novelties_push [] (literals_of trail) x) in (
      λ z. marks (place_of z) ∙ unmarked entry.is_new (old (place_of z)) (literals_of trail) x z split.1 (h.0 z ∙ ap (λ l. has l z) literals),
      split.0,
    )

-- further literals are true
pub extends_all : (trues first : List ℤ) → trues ≡ first → Extends trues first
extends_all trues first e = ([], e ∙ sym (append-nil first))

pub extends_more : (trues between first : List ℤ) → Extends trues between → Extends between first → Extends trues first
extends_more trues between first (later, e) (more, f) = (more ++ later, e ∙ ap (λ l. l ++ later) f ∙ append_assoc first more later)

pub first_kept : (trues first : List ℤ) (count : ℕ) → count ≡ length first → Extends trues first → take count trues ≡ first
first_kept trues first count e (more, f) = (λ i. take (e i) (f i)) ∙ take_front first more
  where
    take_front : (front rest : List ℤ) → take (length front) (front ++ rest) ≡ front
    take_front [] rest = refl
    take_front (z ∷ front) rest = ap (λ l. z ∷ l) (take_front front rest)
