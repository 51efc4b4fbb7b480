-- The stretches of sources in a process: what they are, what orders they ask for, and which are refused.
use Rattle.std.specs.Prelude.{◌≡◌, ◌≤◌, ◌<◌, ◌-◌, ◌⊎◌, ℕ, List, length, slice_index, Option, Some, None}
use Rattle.writer_table.specs.declared.operation_place.OperationPlace.{OperationPlace}
use Rattle.order_clauses.specs.declared.order_pair.OrderPair.{OrderPair}
use Rattle.reason_clauses.specs.AddedOrders.{IsOrder}
use Rattle.reason_clauses.specs.Numbered.{at_number}
use Rattle.reason_clauses.specs.PossibleSources.{IsLaterPlace, IsOtherPlace}
use Rattle.reason_clauses.specs.declared.barring.MainPiece.{MainPiece}
use Rattle.reason_clauses.specs.declared.barring.MainPiece.TheVariants.{Plain, Witness, Between}
use Rattle.reason_clauses.specs.declared.cause.ReasonCause.{ReasonCause}
use Rattle.reason_clauses.specs.declared.cause.ReasonCause.TheVariants.{NoWitness, HidesItself}
use Rattle.reason_clauses.specs.declared.stretches.Stretches.{Stretches}

-- n is the first of these places
abbrev pub IsFirstPlace : (ℕ → Type 0) → ℕ → Type 0
IsFirstPlace Is n = Is n × ((k : ℕ) → Is k → n ≤ k)

-- n is the last of these places
abbrev pub IsLastPlace : (ℕ → Type 0) → ℕ → Type 0
IsLastPlace Is n = Is n × ((k : ℕ) → Is k → k ≤ n)

-- a stretch, if there is one, is of these places: the last up to the bound, the first from the limit on, and the first and the last of the others
pub record AreStretchesOf (Is : ℕ → Type 0) (bound limit : ℕ) (s : Stretches) : Type 0 where
  pub hidden : 1 ≤ s.hidden → IsLastPlace (λ k. Is k × (k ≤ bound)) s.hidden
  pub later : 1 ≤ s.later → IsFirstPlace (λ k. Is k × IsLaterPlace bound limit k) s.later
  pub first : 1 ≤ s.first → IsFirstPlace (λ k. Is k × IsOtherPlace bound limit k) s.first
  pub last : 1 ≤ s.first → IsLastPlace (λ k. Is k × IsOtherPlace bound limit k) s.last

-- The stretches of places of which the first ones, as many as this, are up to the bound, and as many as that before the limit: a stretch, if
-- there is one, is at these places of the list.
pub record AreCut (places : List ℕ) (up_to before : ℕ) (s : Stretches) : Type 0 where
  pub hidden : 1 ≤ s.hidden → (1 ≤ up_to) × (s.hidden ≡ slice_index places (up_to - 1))
  pub later : 1 ≤ s.later → (k : ℕ) × (k < length places) × (up_to ≤ k) × (before ≤ k) × ((k ≡ up_to) ⊎ (k ≡ before)) × (s.later ≡ slice_index places k)
  pub first : 1 ≤ s.first → (up_to < before) × (s.first ≡ slice_index places up_to)
  pub last : 1 ≤ s.first → s.last ≡ slice_index places (before - 1)

-- no place is in a stretch
abbrev pub AreNoStretches : Stretches → Type 0
AreNoStretches s = (s.hidden ≡ 0) × (s.later ≡ 0) × (s.first ≡ 0) × (s.last ≡ 0)

-- the orders that the hidden stretch and the later one ask for
pub data IsTakenOrder (r : OperationPlace) (process : ℕ) (s : Stretches) (witness : Option OperationPlace) (o : OrderPair) : Type 0 where
  BeforeHidden : (x : OperationPlace) → 1 ≤ s.hidden → witness ≡ Some x → IsOrder x (at_number process s.hidden) o → IsTakenOrder r process s witness o
  AfterHidden : (x : OperationPlace) → 1 ≤ s.hidden → witness ≡ Some x → IsOrder r x o → IsTakenOrder r process s witness o
  FromLater : 1 ≤ s.later → IsOrder (at_number process s.later) r o → IsTakenOrder r process s witness o

-- and that the main stretch asks for
pub data IsRestOrder (r : OperationPlace) (process : ℕ) (s : Stretches) (main : MainPiece) (o : OrderPair) : Type 0 where
  BeforeRest : (x : OperationPlace) → 1 ≤ s.first → main ≡ Witness x → IsOrder x (at_number process s.last) o → IsRestOrder r process s main o
  AfterRest : (x : OperationPlace) → 1 ≤ s.first → main ≡ Witness x → IsOrder r x o → IsRestOrder r process s main o
  RestToBetween : (u : OperationPlace) → 1 ≤ s.first → main ≡ Between u → IsOrder (at_number process s.first) u o → IsRestOrder r process s main o
  RestFromBetween : (u : OperationPlace) → 1 ≤ s.first → main ≡ Between u → IsOrder u r o → IsRestOrder r process s main o
  RestToReader : 1 ≤ s.first → main ≡ Plain → IsOrder (at_number process s.first) r o → IsRestOrder r process s main o

-- the witness is the last hidden place itself, or there is none
pub data IsTakenRefused (process : ℕ) (s : Stretches) (witness : Option OperationPlace) (cause : ReasonCause) : Type 0 where
  TakenItself : 1 ≤ s.hidden → witness ≡ Some (at_number process s.hidden) → cause ≡ HidesItself → IsTakenRefused process s witness cause
  TakenUnwitnessed : 1 ≤ s.hidden → witness ≡ None → cause ≡ NoWitness → IsTakenRefused process s witness cause

-- the witness is the last place of the main stretch itself
abbrev pub IsRestRefused : ℕ → Stretches → MainPiece → ReasonCause → Type 0
IsRestRefused process s main cause = (1 ≤ s.first) × (main ≡ Witness (at_number process s.last)) × (cause ≡ HidesItself)
