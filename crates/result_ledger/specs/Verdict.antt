-- The verdict on a formula, by what was answered for each leaf of a tree.
use Rattle.std.specs.Prelude.{◌≡◌, ◌≢◌, ◌⊎◌, ℕ, ◌<◌, ℤ, Bool, IsTrue, List, [], length, Some}
use Rattle.std.specs.List.{AllPairs, Contains, list_all, slice_get}
use Rattle.dimacs.specs.Assignment.{value_of}
use Rattle.lrat_check.specs.declared.derivation.Step.{Step}
use Rattle.lrat_check.specs.Checked.{IsAccepted}
use Rattle.lrat_check.specs.LratText.{is_lrat_step}
use Rattle.cube_jobs.specs.declared.outcome.Outcome.TheVariants.{Model, Refuted}
use Rattle.cube_jobs.specs.Models.{IsModelIn}
use Rattle.result_ledger.specs.declared.slot.Slot.{Slot}
use Rattle.result_ledger.specs.declared.verdict.Verdict.{Verdict}
use Rattle.result_ledger.specs.declared.verdict.Verdict.TheVariants.{Consistent, Inconsistent, Unknown}

-- Each step can be written as an LRAT line, so that others can check the derivation again, and the steps are accepted as a derivation of
-- the empty clause from the clauses and the cube.
pub record IsProofIn (clauses : List (List ℤ)) (cube : List ℤ) (steps : List Step) : Type 0 where
  pub written : IsTrue (list_all is_lrat_step steps)
  pub accepted : IsAccepted clauses cube steps

-- the answer is a model, with these truth values, that makes the cube true
pub record IsModelAnswer (clauses : List (List ℤ)) (slot : Slot) (truth : List Bool) : Type 0 where
  pub answer : slot.outcome ≡ Some (Model truth)
  pub confirmed : IsModelIn clauses slot.cube (value_of truth)

-- the answer is a derivation that can be written and is accepted for the cube
pub record IsProofAnswer (clauses : List (List ℤ)) (slot : Slot) : Type 0 where
  pub steps : List Step
  pub answer : slot.outcome ≡ Some (Refuted steps)
  pub confirmed : IsProofIn clauses slot.cube steps

-- the answer for this leaf is such a model
pub record HasModelAt (clauses : List (List ℤ)) (slots : List Slot) (leaf : ℕ) (truth : List Bool) : Type 0 where
  pub slot : Slot
  pub there : slice_get slots leaf ≡ Some slot
  pub holds : IsModelAnswer clauses slot truth

-- the answer for this leaf is such a derivation
pub record HasProofAt (clauses : List (List ℤ)) (slots : List Slot) (leaf : ℕ) : Type 0 where
  pub slot : Slot
  pub there : slice_get slots leaf ≡ Some slot
  pub holds : IsProofAnswer clauses slot

-- no leaf before this one has a model for its answer
abbrev pub HaveNoModelBefore : List (List ℤ) → List Slot → ℕ → Type 0
HaveNoModelBefore clauses slots leaf = (other : ℕ) (truth : List Bool) → other < leaf → HasModelAt clauses slots other truth → ⊥

-- these are the leaves before this one that do not have it, rising
pub record AreWithout (Has : ℕ → Type 0) (end : ℕ) (leaves : List ℕ) : Type 0 where
  pub rising : AllPairs (λ x y. x < y) leaves
  pub each : (leaf : ℕ) → Contains leaves leaf → (leaf < end) × (Has leaf → ⊥)
  pub every : (leaf : ℕ) → leaf < end → Has leaf ⊎ Contains leaves leaf

-- The verdict: the lowest leaf that has a model for its answer, with its truth values; else the number of leaves, where each
-- of them has a derivation that can be written and is accepted; else the leaves that have none.
abbrev pub IsVerdict : List (List ℤ) → List Slot → Verdict → Type 0
IsVerdict clauses slots (Consistent leaf truth) = HasModelAt clauses slots leaf truth × HaveNoModelBefore clauses slots leaf
IsVerdict clauses slots (Inconsistent count) =
    HaveNoModelBefore clauses slots (length slots) × ((leaf : ℕ) → leaf < length slots → HasProofAt clauses slots leaf) × (count ≡ length slots)
IsVerdict clauses slots (Unknown leaves) =
    HaveNoModelBefore clauses slots (length slots) × AreWithout (HasProofAt clauses slots) (length slots) leaves × (leaves ≢ [])

-- the verdict is a model in the cube of a leaf below this one
pub record IsConsistentBelow (leaf : ℕ) (verdict : Verdict) : Type 0 where
  pub lower : ℕ
  pub truth : List Bool
  pub below : lower < leaf
  pub verdict_is : verdict ≡ Consistent lower truth

-- the slots are the same up to the lowest leaf that has a model for its answer, and all of them where none has
abbrev pub AgreeUpToModel : List (List ℤ) → List Slot → List Slot → Type 0
AgreeUpToModel clauses first second = (leaf : ℕ) → HaveNoModelBefore clauses first leaf → slice_get first leaf ≡ slice_get second leaf
