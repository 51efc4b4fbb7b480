-- One verdict for the answers of a ledger, and the same for ledgers that agree.
use Rattle.std.proofs.Common.{◌≡◌, ℕ, eqb, false, ◌<◌, suc, ℤ, Bool, List, [], ◌∷◌, length, Some, refl, sym, ◌∙◌, ap, inl, inr, subst, arith}
use Rattle.std.specs.List.{Contains, slice_get}
use Rattle.std.proofs.lemmas.Bool.{cases_order}
use Rattle.std.proofs.lemmas.Option.{slice_get_within}
use Rattle.trace_semantics.proofs.ElementLemmas.{head_in, none_in}
use Rattle.cube_jobs.specs.declared.outcome.Outcome.TheVariants.{Model}
use Rattle.result_ledger.specs.declared.slot.Slot.{Slot}
use Rattle.result_ledger.specs.declared.verdict.Verdict.{Verdict}
use Rattle.result_ledger.specs.declared.verdict.Verdict.TheVariants.{Consistent, Inconsistent, Unknown}
use Rattle.result_ledger.specs.Verdict.{HasModelAt, HasProofAt, HaveNoModelBefore, AreWithout, IsVerdict, AgreeUpToModel}
use Rattle.result_ledger.proofs.RisingLemmas.{rising_same}

-- lists with the same elements at the same places are the same
pub same_lists : {X : Type 0} (xs ys : List X) → ((k : ℕ) → slice_get xs k ≡ slice_get ys k) → xs ≡ ys
same_lists [] [] h = refl
same_lists [] (y ∷ ys) h = absurd (let e = h 0 in cc)
same_lists (x ∷ xs) [] h = absurd (let e = h 0 in cc)
same_lists {X} (x ∷ xs) (y ∷ ys) h =
    let e = h 0 in
    let same : x ≡ y = cc in
    let rest : xs ≡ ys = same_lists xs ys (λ k. h (suc k)) in
    λ i. same i ∷ rest i

model_within : (clauses : List (List ℤ)) (slots : List Slot) (leaf : ℕ) (truth : List Bool) → HasModelAt clauses slots leaf truth → leaf < length slots
model_within clauses slots leaf truth h = slice_get_within slots leaf h.slot h.there

-- no leaf has a model for its answer
nowhere : (clauses : List (List ℤ)) (slots : List Slot) (leaf : ℕ) (truth : List Bool) → HaveNoModelBefore clauses slots (length slots) → HasModelAt clauses slots leaf truth → ⊥
nowhere clauses slots leaf truth none h = none leaf truth (model_within clauses slots leaf truth h) h

-- the answer of one leaf is one
one_model : (clauses : List (List ℤ)) (slots : List Slot) (a b : ℕ) (s t : List Bool) → a ≡ b → HasModelAt clauses slots a s → HasModelAt clauses slots b t → Consistent a s ≡ Consistent b t
one_model clauses slots a b s t same h k =
    let there : slice_get slots a ≡ Some k.slot = subst (λ (n : ℕ). slice_get slots n ≡ Some k.slot) (sym same) k.there in
    let slots_same : Some h.slot ≡ Some k.slot = sym h.there ∙ there in
    let slot_same : h.slot ≡ k.slot = cc slots_same in
    let answers : Some (Model s) ≡ Some (Model t) = sym h.holds.answer ∙ ap (λ (x : Slot). x.outcome) slot_same ∙ k.holds.answer in
    let values : s ≡ t = cc answers in
    λ i. Consistent (same i) (values i)

open_not_proved : (clauses : List (List ℤ)) (slots : List Slot) (leaves : List ℕ) → ((leaf : ℕ) → leaf < length slots → HasProofAt clauses slots leaf) → AreWithout (HasProofAt clauses slots) (length slots) leaves → leaves ≡ []
open_not_proved clauses slots [] all left = refl
open_not_proved clauses slots (leaf ∷ leaves) all left = let (within, not_proved) = left.each leaf (head_in leaf leaves) in absurd (not_proved (all leaf within))

into : (Has : ℕ → Type 0) (end : ℕ) (xs ys : List ℕ) → AreWithout Has end xs → AreWithout Has end ys → (z : ℕ) → Contains xs z → Contains ys z
into Has end xs ys left other z c =
    let (within, not_proved) = left.each z c in
    elim (other.every z within) [ inl proved ↦ absurd (not_proved proved) | inr there ↦ there ]

-- the answers have one verdict at most
pub one_verdict : (clauses : List (List ℤ)) (slots : List Slot) (v w : Verdict) → IsVerdict clauses slots v → IsVerdict clauses slots w → v ≡ w
one_verdict clauses slots (Consistent a s) (Consistent b t) (here, lowest) (there, least) = elim (cases_order a b) [
  | inl same ↦ one_model clauses slots a b s t same here there
  | inr (inl below) ↦ absurd (least a s below here)
  | inr (inr above) ↦ absurd (lowest b t above there)
]
one_verdict clauses slots (Consistent a s) (Inconsistent n) (here, lowest) k = absurd (nowhere clauses slots a s k.0 here)
one_verdict clauses slots (Consistent a s) (Unknown ys) (here, lowest) k = absurd (nowhere clauses slots a s k.0 here)
one_verdict clauses slots (Inconsistent m) (Consistent b t) h (there, least) = absurd (nowhere clauses slots b t h.0 there)
one_verdict clauses slots (Inconsistent m) (Inconsistent n) h k = ap Inconsistent (h.2 ∙ sym k.2)
one_verdict clauses slots (Inconsistent m) (Unknown ys) h k = absurd (k.2 (open_not_proved clauses slots ys h.1 k.1))
one_verdict clauses slots (Unknown xs) (Consistent b t) h (there, least) = absurd (nowhere clauses slots b t h.0 there)
one_verdict clauses slots (Unknown xs) (Inconsistent n) h k = absurd (h.2 (open_not_proved clauses slots xs k.1 h.1))
one_verdict clauses slots (Unknown xs) (Unknown ys) h k =
    ap Unknown (rising_same xs ys h.1.rising k.1.rising (into (HasProofAt clauses slots) (length slots) xs ys h.1 k.1) (into (HasProofAt clauses slots) (length slots) ys xs k.1 h.1))

moved : (clauses : List (List ℤ)) (first second : List Slot) (leaf : ℕ) (truth : List Bool) → slice_get first leaf ≡ slice_get second leaf → HasModelAt clauses first leaf truth → HasModelAt clauses second leaf truth
moved clauses first second leaf truth e h = record { slot = h.slot; there = sym e ∙ h.there; holds = h.holds }

all_same : (clauses : List (List ℤ)) (first second : List Slot) → AgreeUpToModel clauses first second → HaveNoModelBefore clauses first (length first) → first ≡ second
all_same clauses first second agree none = same_lists first second (λ k. agree k (λ o t below h. nowhere clauses first o t none h))

carried : (clauses : List (List ℤ)) (first second : List Slot) (v : Verdict) → AgreeUpToModel clauses first second → IsVerdict clauses first v → IsVerdict clauses second v
carried clauses first second (Consistent a s) agree (here, lowest) = (
  moved clauses first second a s (agree a lowest) here,
  λ o t below h. lowest o t below (moved clauses second first o t (sym (agree o (λ p u lower k. lowest p u (omega (arith, below, lower)) k))) h),
)
carried clauses first second (Inconsistent n) agree h = subst (λ (slots : List Slot). IsVerdict clauses slots (Inconsistent n)) (all_same clauses first second agree h.0) h
carried clauses first second (Unknown xs) agree h = subst (λ (slots : List Slot). IsVerdict clauses slots (Unknown xs)) (all_same clauses first second agree h.0) h

-- ledgers that agree have one verdict
pub verdicts_agree : (clauses : List (List ℤ)) (first second : List Slot) (v w : Verdict) → AgreeUpToModel clauses first second → IsVerdict clauses first v → IsVerdict clauses second w → v ≡ w
verdicts_agree clauses first second v w agree h k = one_verdict clauses second v w (carried clauses first second v agree h) k

-- no leaf is without a proof
pub all_proved : (clauses : List (List ℤ)) (slots : List Slot) (leaves : List ℕ) (count : ℕ) → HaveNoModelBefore clauses slots (length slots) → AreWithout (HasProofAt clauses slots) (length slots) leaves → length leaves ≡ 0 → count ≡ length slots →
    IsVerdict clauses slots (Inconsistent count)
all_proved clauses slots [] count none so empty counted = (none, (λ leaf within. elim (so.every leaf within) [ inl proved ↦ proved | inr there ↦ absurd (none_in leaf there) ]), counted)
all_proved clauses slots (leaf ∷ leaves) count none so empty counted = absurd (omega arith)

-- some leaf is
pub some_without : (clauses : List (List ℤ)) (slots : List Slot) (leaves : List ℕ) → HaveNoModelBefore clauses slots (length slots) → AreWithout (HasProofAt clauses slots) (length slots) leaves → 0 < length leaves →
    IsVerdict clauses slots (Unknown leaves)
some_without clauses slots leaves none so some = (none, so, λ e. absurd (let no_leaves : length leaves ≡ 0 = ap length e in omega arith))

-- a list of some length has elements
pub not_none : (leaves : List ℕ) (len : ℕ) → len ≡ length leaves → eqb len 0 ≡ false → 0 < length leaves
not_none [] len same wrong = absurd (let e : eqb 0 0 ≡ false = subst (λ (n : ℕ). eqb n 0 ≡ false) same wrong in cc)
not_none (x ∷ xs) len same right = omega arith
