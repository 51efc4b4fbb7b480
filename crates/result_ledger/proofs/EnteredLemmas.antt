-- What a ledger holds once results were entered, and that their order changes nothing.
use Rattle.std.proofs.Common.{◌≡◌, ◌≢◌, ℕ, zero, suc, ◌<◌, ℤ, Bool, List, [], ◌∷◌, ◌++◌, length, get_or, Some, None, eqb, inl, inr, refl, sym, ◌∙◌, ap, subst, arith, append-nil}
use Rattle.std.specs.Prelude.{slice_set, IsPermutation}
use Rattle.std.specs.List.{AllPairs, Contains, slice_get}
use Rattle.std.proofs.Math.Seq.{get_or-append_seam}
use Rattle.std.proofs.lemmas.Bool.{cases_order}
use Rattle.std.proofs.lemmas.Bool.Decides.{Decides-eqb, eqb_tells, nat_tests}
use Rattle.std.proofs.lemmas.List.{get_or_append_left, map-append}
use Rattle.std.proofs.lemmas.List.Elements.{Contains-get_or}
use Rattle.std.proofs.lemmas.List.Kept.{AllPairs-cons}
use Rattle.std.proofs.lemmas.List.Sorted.{Contains-permutation, IsPermutation-map, IsPermutation-sym}
use Rattle.std.proofs.lemmas.Map.Keys.{IsDistinct-IsPermutation}
use Rattle.std.proofs.lemmas.Map.Made.{AllPairs-from_IsDistinct, IsDistinct-from_AllPairs}
use Rattle.std.proofs.lemmas.Option.{slice_get_within}
use Rattle.trace_semantics.proofs.ElementLemmas.{cases_in, from_map, head_in, in_middle, none_in, tail_in, to_map}
use Rattle.cube_jobs.specs.declared.job.Settled.{Settled}
use Rattle.cube_jobs.specs.declared.outcome.Outcome.{Outcome}
use Rattle.cube_jobs.specs.declared.outcome.Outcome.TheVariants.{Skipped}
use Rattle.cube_jobs.specs.Results.{AreResultsOf}
use Rattle.result_ledger.specs.declared.slot.Slot.{Slot}
use Rattle.result_ledger.specs.declared.verdict.Verdict.{Verdict}
use Rattle.result_ledger.specs.declared.verdict.Verdict.TheVariants.{Consistent, Inconsistent, Unknown}
use Rattle.result_ledger.specs.Entered.{tickets_of, answered_slot, FitEmptySlots, AreEntered, AreEnteredInTurn}
use Rattle.result_ledger.specs.Ledger.{empty_slot, cubes_in, Fills}
use Rattle.result_ledger.specs.Verdict.{HasModelAt, IsVerdict, IsConsistentBelow}
use Rattle.result_ledger.proofs.SlotLemmas.{filled_keeps}
use Rattle.result_ledger.proofs.VerdictLemmas.{same_lists}

-- ---- one result

set_here : (slots : List Slot) (k : ℕ) (old new : Slot) → slice_get slots k ≡ Some old → slice_get (slice_set slots k new) k ≡ Some new
set_here [] k old new there = absurd (cc)
set_here (slot ∷ slots) zero old new there = refl
set_here (slot ∷ slots) (suc k) old new there = set_here slots k old new there

set_elsewhere : (slots : List Slot) (k j : ℕ) (new : Slot) → (k ≡ j → ⊥) → slice_get (slice_set slots k new) j ≡ slice_get slots j
set_elsewhere [] k j new apart = refl
set_elsewhere (slot ∷ slots) zero zero new apart = absurd (apart refl)
set_elsewhere (slot ∷ slots) zero (suc j) new apart = refl
set_elsewhere (slot ∷ slots) (suc k) zero new apart = refl
set_elsewhere (slot ∷ slots) (suc k) (suc j) new apart = set_elsewhere slots k j new (λ same. apart (ap suc same))

filled_here : (old new : List Slot) (s : Settled) → Fills old new s → slice_get new s.ticket ≡ Some (answered_slot s)
filled_here old new s f =
    subst (λ (l : List Slot). slice_get l s.ticket ≡ Some (answered_slot s)) (sym f.filled) (set_here old s.ticket (empty_slot s.cube) (answered_slot s) f.empty)

same_elsewhere : (old new : List Slot) (s : Settled) → Fills old new s → (leaf : ℕ) → (s.ticket ≡ leaf → ⊥) → slice_get new leaf ≡ slice_get old leaf
same_elsewhere old new s f leaf apart = ap (λ (l : List Slot). slice_get l leaf) f.filled ∙ set_elsewhere old s.ticket leaf (answered_slot s) apart

-- a slot with an answer is no empty one
not_empty : (slot : Slot) (cube : List ℤ) (answer : Outcome) → slot.outcome ≡ Some answer → slot ≡ empty_slot cube → ⊥
not_empty slot cube answer filled empty =
    let none : slot.outcome ≡ None = ap (λ (s : Slot). s.outcome) empty in
    absurd (cc)

-- ---- all of them

-- results that are entered into a slot that is filled already
told_apart : (slots : List Slot) (s other : Settled) → slice_get slots s.ticket ≡ Some (answered_slot s) → slice_get slots other.ticket ≡ Some (empty_slot other.cube) → s.ticket ≡ other.ticket → ⊥
told_apart slots s other here there same =
    let at : slice_get slots s.ticket ≡ Some (empty_slot other.cube) = subst (λ (n : ℕ). slice_get slots n ≡ Some (empty_slot other.cube)) (sym same) there in
    let both : Some (answered_slot s) ≡ Some (empty_slot other.cube) = sym here ∙ at in
    let slots_same : answered_slot s ≡ empty_slot other.cube = cc both in
    not_empty (answered_slot s) other.cube s.outcome refl slots_same

none_entered : (slots : List Slot) → AreEntered slots [] slots
none_entered slots = record {
  fit = record { each = λ s c. absurd (none_in s c); once = λ i j d below within. absurd (omega (arith, within)) };
  each = λ s c. absurd (none_in s c);
  others = λ leaf none. refl;
}

-- one of them first
first_entered : (old between new : List Slot) (s : Settled) (results : List Settled) → Fills old between s → AreEntered between results new → AreEntered old (s ∷ results) new
first_entered old between new s results f after =
    let here : slice_get between s.ticket ≡ Some (answered_slot s) = filled_here old between s f in
    let apart : (x : Settled) → Contains results x → s.ticket ≡ x.ticket → ⊥ = λ x c same. told_apart between s x here (after.fit.each x c) same in
    let not_first : (leaf : ℕ) → Contains (tickets_of results) leaf → s.ticket ≡ leaf → ⊥ = λ leaf c same.
    let (x, among, is) = from_map (λ (settled : Settled). settled.ticket) results leaf c in
    apart x among (same ∙ sym is) in
    record {
      fit = record {
        each = λ x c. elim (cases_in s results x c) [
          | inl same ↦ subst (λ (y : Settled). slice_get old y.ticket ≡ Some (empty_slot y.cube)) same f.empty
          | inr among ↦ sym (same_elsewhere old between s f x.ticket (apart x among)) ∙ after.fit.each x among
        ];
        once = AllPairs-cons (λ (x y : ℕ). x ≢ y) s.ticket (tickets_of results) (λ j d within same. not_first (get_or (tickets_of results) j d) (Contains-get_or (tickets_of results) j d within) same) after.fit.once;
      };
      each = λ x c. elim (cases_in s results x c) [
        | inl same ↦ subst (λ (y : Settled). slice_get new y.ticket ≡ Some (answered_slot y)) same (after.others s.ticket (λ among. not_first s.ticket among refl) ∙ here)
        | inr among ↦ after.each x among
      ];
      others = λ leaf none.
          after.others leaf (λ among. none (tail_in s.ticket (tickets_of results) leaf among))
          ∙ same_elsewhere old between s f leaf (λ same. none (subst (λ (n : ℕ). Contains (tickets_of (s ∷ results)) n) same (head_in s.ticket (tickets_of results))));
    }

pub entered : (old : List Slot) (results : List Settled) (new : List Slot) → AreEnteredInTurn old results new → AreEntered old results new
entered old [] new same = subst (λ (l : List Slot). AreEntered old [] l) (sym same) (none_entered old)
entered old (s ∷ results) new (between, f, rest) = first_entered old between new s results f (entered between results new rest)

-- the first of them is of another leaf than the others
first_apart : (s : Settled) (results : List Settled) → AllPairs (λ (x y : ℕ). x ≢ y) (tickets_of (s ∷ results)) → (x : Settled) → Contains results x → s.ticket ≡ x.ticket → ⊥
first_apart s results once x c same =
    let (k, within, is) = to_map (λ (settled : Settled). settled.ticket) results x c in
    once 0 (suc k) x.ticket (omega arith) (omega (arith, within)) (same ∙ sym is)

others_same : (old new : List Slot) (s : Settled) (results : List Settled) → AreEntered old (s ∷ results) new → (leaf : ℕ) → (Contains (tickets_of results) leaf → ⊥) →
    slice_get new leaf ≡ slice_get (slice_set old s.ticket (answered_slot s)) leaf
others_same old new s results e leaf none = elim (eqb_tells s.ticket leaf) [
  | inl same ↦
      let here : slice_get new s.ticket ≡ slice_get (slice_set old s.ticket (answered_slot s)) s.ticket =
      e.each s (head_in s results) ∙ sym (set_here old s.ticket (empty_slot s.cube) (answered_slot s) (e.fit.each s (head_in s results))) in
      subst (λ (n : ℕ). slice_get new n ≡ slice_get (slice_set old s.ticket (answered_slot s)) n) same.1 here
  | inr apart ↦
      e.others leaf (λ c. elim (cases_in s.ticket (tickets_of results) leaf c) [ inl first ↦ apart.1 first | inr among ↦ none among ])
      ∙ sym (set_elsewhere old s.ticket leaf (answered_slot s) apart.1)
]

rest_entered : (old new : List Slot) (s : Settled) (results : List Settled) → AreEntered old (s ∷ results) new → AreEntered (slice_set old s.ticket (answered_slot s)) results new
rest_entered old new s results e = record {
  fit = record {
    each = λ x c. set_elsewhere old s.ticket x.ticket (answered_slot s) (first_apart s results e.fit.once x c) ∙ e.fit.each x (tail_in s results x c);
    once = λ i j d below within. e.fit.once (suc i) (suc j) d (omega (arith, below)) (omega (arith, within));
  };
  each = λ x c. e.each x (tail_in s results x c);
  others = others_same old new s results e;
}

pub in_turn : (old : List Slot) (results : List Settled) (new : List Slot) → AreEntered old results new → AreEnteredInTurn old results new
in_turn old [] new e = same_lists new old (λ leaf. e.others leaf (none_in leaf))
in_turn old (s ∷ results) new e =
    let between : List Slot = slice_set old s.ticket (answered_slot s) in
    (between, record { empty = e.fit.each s (head_in s results); filled = refl }, in_turn between results new (rest_entered old new s results e))

-- the same results in another order
pub reordered : (slots ledger : List Slot) (results others : List Settled) → AreEnteredInTurn slots results ledger → IsPermutation results others → AreEnteredInTurn slots others ledger
reordered slots ledger results others turn same =
    let e = entered slots results ledger turn in
    let ticket : Settled → ℕ = λ (settled : Settled). settled.ticket in
    let tickets : IsPermutation (tickets_of results) (tickets_of others) = IsPermutation-map ticket results others same in
    let back : (x : Settled) → Contains others x → Contains results x = λ x c. Contains-permutation others results x (IsPermutation-sym results others same) c in
    in_turn slots others ledger (record {
      fit = record {
        each = λ x c. e.fit.each x (back x c);
        once = AllPairs-from_IsDistinct Decides-eqb (tickets_of others) (IsDistinct-IsPermutation eqb (λ x y. grind (arith, nat_tests)) (tickets_of results) (tickets_of others) tickets (IsDistinct-from_AllPairs Decides-eqb (tickets_of results) e.fit.once));
      };
      each = λ x c. e.each x (back x c);
      others = λ leaf none. e.others leaf (λ c. none (Contains-permutation (tickets_of results) (tickets_of others) leaf tickets c));
    })

-- ---- one after the other

-- one more
pub entered_on : (old mid new : List Slot) (results : List Settled) (s : Settled) → AreEnteredInTurn old results mid → Fills mid new s → AreEnteredInTurn old (results ++ s ∷ []) new
entered_on old mid new [] s same f = (new, subst (λ (l : List Slot). Fills l new s) same f, refl)
entered_on old mid new (x ∷ results) s (between, first, rest) f = (between, first, entered_on between mid new results s rest f)

-- the slot of the next one is empty still
pub next_fits : (old mid : List Slot) (all before : List Settled) (s : Settled) (after : List Settled) → all ≡ before ++ s ∷ after → FitEmptySlots old all → AreEnteredInTurn old before mid →
    slice_get mid s.ticket ≡ Some (empty_slot s.cube)
next_fits old mid all before s after parts fit turn =
    let e = entered old before mid turn in
    let tickets : tickets_of all ≡ tickets_of before ++ s.ticket ∷ tickets_of after =
    ap tickets_of parts ∙ map-append (λ (settled : Settled). settled.ticket) before (s ∷ after) in
    let once : AllPairs (λ (x y : ℕ). x ≢ y) (tickets_of before ++ s.ticket ∷ tickets_of after) = subst (λ (ts : List ℕ). AllPairs (λ (x y : ℕ). x ≢ y) ts) tickets fit.once in
    let not_before : Contains (tickets_of before) s.ticket → ⊥ = λ (k, within, is).
    once k (length (tickets_of before)) s.ticket within (inside (tickets_of before) s.ticket (tickets_of after))
    (get_or_append_left (tickets_of before) (s.ticket ∷ tickets_of after) s.ticket k within ∙ is ∙ sym (get_or-append_seam (tickets_of before) s.ticket (tickets_of after) s.ticket)) in
    e.others s.ticket not_before ∙ fit.each s (subst (λ (rs : List Settled). Contains rs s) (sym parts) (in_middle before s after))
  where
    inside : (xs : List ℕ) (x : ℕ) (ys : List ℕ) → length xs < length (xs ++ x ∷ ys)
    inside [] x ys = omega arith
    inside (y ∷ xs) x ys = let rest = inside xs x ys in omega (arith, rest)

-- there are no more
pub all_entered : (all front rest : List Settled) → all ≡ front ++ rest → length rest ≡ 0 → (old new : List Slot) → AreEnteredInTurn old front new → AreEnteredInTurn old all new
all_entered all front [] parts none old new turn = subst (λ (rs : List Settled). AreEnteredInTurn old rs new) (sym (parts ∙ append-nil front)) turn
all_entered all front (s ∷ rest) parts none old new turn = absurd (omega (arith, none))

-- the cubes stay
pub keeps_cubes : (old : List Slot) (results : List Settled) (new : List Slot) → AreEnteredInTurn old results new → cubes_in new ≡ cubes_in old
keeps_cubes old [] new same = ap cubes_in same
keeps_cubes old (s ∷ results) new (between, f, rest) = keeps_cubes between results new rest ∙ filled_keeps old between s f

-- ---- the verdict

lowest : (clauses : List (List ℤ)) (slots : List Slot) (at leaf : ℕ) (truth : List Bool) (verdict : Verdict) → HasModelAt clauses slots at truth → at < leaf → IsVerdict clauses slots verdict → IsConsistentBelow leaf verdict
lowest clauses slots at leaf truth (Consistent l t) model below (here, least) = record {
  lower = l;
  truth = t;
  below = elim (cases_order at l) [
    | inl same ↦ omega (arith, same, below)
    | inr (inl before) ↦ absurd (least at truth before model)
    | inr (inr after) ↦ omega (arith, after, below)
  ];
  verdict_is = refl;
}
lowest clauses slots at leaf truth (Inconsistent count) model below h = absurd (h.0 at truth (slice_get_within slots at model.slot model.there) model)
lowest clauses slots at leaf truth (Unknown leaves) model below h = absurd (h.0 at truth (slice_get_within slots at model.slot model.there) model)

pub skipped_below : (clauses cubes : List (List ℤ)) (which : List ℕ) (results : List Settled) (old new : List Slot) (skipped : Settled) (verdict : Verdict) →
    AreResultsOf clauses cubes which results → AreEntered old results new → Contains results skipped → skipped.outcome ≡ Skipped →
    IsVerdict clauses new verdict → IsConsistentBelow skipped.ticket verdict
skipped_below clauses cubes which results old new skipped verdict r e among is v =
    let found = r.skipped skipped among is in
    let model : HasModelAt clauses new found.lower.ticket found.model.truth = record {
      slot = answered_slot found.lower;
      there = e.each found.lower found.among;
      holds = record { answer = ap Some found.model.said; confirmed = found.model.confirmed };
    } in
    lowest clauses new found.lower.ticket skipped.ticket found.model.truth verdict model found.below v
