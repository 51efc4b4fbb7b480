-- What a ledger holds, and what is entered into it.
use Rattle.std.specs.Prelude.{◌≡◌, ◌≢◌, ℕ, ◌+◌, ◌<◌, ℤ, List, ◌∷◌, ◌++◌, map, length, take, drop, slice_set, filter_map, Option, Some, None, IsSome, codes}
use Rattle.std.specs.List.{slice_get}
use Rattle.lrat_check.specs.declared.derivation.Step.{Step}
use Rattle.cube_jobs.specs.declared.job.Settled.{Settled}
use Rattle.cube_jobs.specs.declared.outcome.Outcome.{Outcome}
use Rattle.cube_jobs.specs.declared.outcome.Outcome.TheVariants.{Refuted}
use Rattle.result_ledger.specs.declared.entry_fault.EntryFault.{EntryFault}
use Rattle.result_ledger.specs.declared.entry_fault.EntryFault.TheVariants.{Stranger, Double, WrongCube}
use Rattle.result_ledger.specs.declared.slot.Slot.{Slot}

-- a leaf of this cube without an answer
abbrev pub empty_slot : List ℤ → Slot
empty_slot cube = record { cube = cube; outcome = None }

-- the cubes of the leaves
abbrev pub cubes_in : List Slot → List (List ℤ)
cubes_in slots = map (λ (slot : Slot). slot.cube) slots

-- the derivation that is the slot's answer, if it is one
abbrev pub said_derivation : Option Outcome → Option (List Step)
said_derivation (Some (Refuted steps)) = Some steps
said_derivation answer = None

abbrev pub derivation_of : Slot → Option (List Step)
derivation_of slot = said_derivation slot.outcome

-- the derivations among the answers, in the order of the leaves
abbrev pub derivations_in : List Slot → List (List Step)
derivations_in slots = filter_map derivation_of slots

-- the result fills the one slot that it names, which was empty and has its cube
pub record Fills (old new : List Slot) (settled : Settled) : Type 0 where
  pub empty : slice_get old settled.ticket ≡ Some (empty_slot settled.cube)
  pub filled : new ≡ slice_set old settled.ticket (record { cube = settled.cube; outcome = Some settled.outcome })

-- why a result is not entered: there is no such leaf; it has an answer already; it has another cube
abbrev pub IsEntryFault : List Slot → Settled → EntryFault → Type 0
IsEntryFault slots settled Stranger = slice_get slots settled.ticket ≡ None
IsEntryFault slots settled Double = (slot : Slot) × (slice_get slots settled.ticket ≡ Some slot) × IsSome slot.outcome
IsEntryFault slots settled WrongCube = (slot : Slot) × (slice_get slots settled.ticket ≡ Some slot) × (slot.outcome ≡ None) × (slot.cube ≢ settled.cube)

-- something was answered for this leaf
pub record HasAnswerAt (slots : List Slot) (leaf : ℕ) : Type 0 where
  pub slot : Slot
  pub there : slice_get slots leaf ≡ Some slot
  pub answered : IsSome slot.outcome

-- the second list is the first with the cube of this leaf replaced by two
pub record SplitsCube (leaf : ℕ) (old new : List (List ℤ)) : Type 0 where
  pub before : List (List ℤ)
  pub cube : List ℤ
  pub after : List (List ℤ)
  pub left : List ℤ
  pub right : List ℤ
  pub old_is : old ≡ before ++ cube ∷ after
  pub new_is : new ≡ before ++ (left ∷ (right ∷ after))
  pub counted : leaf ≡ length before

-- the slots with that of this leaf replaced by two without an answer, so that they have these cubes
pub record IsSplitAt (leaf : ℕ) (cubes : List (List ℤ)) (old new : List Slot) : Type 0 where
  pub left : List ℤ
  pub right : List ℤ
  pub within : leaf < length old
  pub new_is : new ≡ take leaf old ++ (empty_slot left ∷ (empty_slot right ∷ drop (leaf + 1) old))
  pub cubes_are : cubes_in new ≡ cubes

-- the number of a cause
abbrev pub cause_number : EntryFault → ℕ
cause_number Stranger = 2
cause_number Double = 3
cause_number WrongCube = 4

-- the name of a cause
abbrev pub cause_name : EntryFault → List ℕ
cause_name Stranger = codes "Stranger"
cause_name Double = codes "Double"
cause_name WrongCube = codes "WrongCube"
