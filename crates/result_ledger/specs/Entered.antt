-- The results of a search in a ledger.
use Rattle.std.specs.Prelude.{◌≡◌, ◌≢◌, ℕ, List, [], ◌∷◌, map, Some}
use Rattle.std.specs.List.{AllPairs, Contains, slice_get}
use Rattle.cube_jobs.specs.declared.job.Settled.{Settled}
use Rattle.result_ledger.specs.declared.slot.Slot.{Slot}
use Rattle.result_ledger.specs.Ledger.{empty_slot, Fills}

-- the leaves that the results name
abbrev pub tickets_of : List Settled → List ℕ
tickets_of results = map (λ (settled : Settled). settled.ticket) results

-- what a ledger holds of a leaf whose result was entered
abbrev pub answered_slot : Settled → Slot
answered_slot settled = record { cube = settled.cube; outcome = Some settled.outcome }

-- each result is of a leaf without an answer, and has its cube; and no two are of one leaf
pub record FitEmptySlots (slots : List Slot) (results : List Settled) : Type 0 where
  pub each : (settled : Settled) → Contains results settled → slice_get slots settled.ticket ≡ Some (empty_slot settled.cube)
  pub once : AllPairs (λ x y. x ≢ y) (tickets_of results)

-- The results were entered: each is in the slot of its leaf, which was empty, and no other slot has changed.
pub record AreEntered (old : List Slot) (results : List Settled) (new : List Slot) : Type 0 where
  pub fit : FitEmptySlots old results
  pub each : (settled : Settled) → Contains results settled → slice_get new settled.ticket ≡ Some (answered_slot settled)
  pub others : (leaf : ℕ) → (Contains (tickets_of results) leaf → ⊥) → slice_get new leaf ≡ slice_get old leaf

-- the results were entered one after the other, in this order: each of them fills the slot that it names
abbrev pub AreEnteredInTurn : List Slot → List Settled → List Slot → Type 0
AreEnteredInTurn old [] new = new ≡ old
AreEnteredInTurn old (settled ∷ results) new = (between : List Slot) × Fills old between settled × AreEnteredInTurn between results new
