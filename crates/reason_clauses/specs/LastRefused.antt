-- Which locations with pieces against their last writers are refused, and what orders they ask for.
use Rattle.std.specs.Prelude.{◌≡◌, ◌<◌, ◌⊎◌, nat_le, ℕ, List, Option, Some, None, if◌then◌else◌}
use Rattle.std.specs.List.{Contains}
use Rattle.trace_semantics.specs.Trace.{TraceValue, value_of}
use Rattle.trace_semantics.specs.ValueAfter.{value_left_at}
use Rattle.writer_table.specs.declared.operation_place.OperationPlace.{OperationPlace}
use Rattle.order_clauses.specs.Numbered.{named, IsKnown}
use Rattle.order_clauses.specs.declared.order_pair.OrderPair.{OrderPair}
use Rattle.order_reasons.specs.Sources.{IsLostFinal}
use Rattle.reason_clauses.specs.AddedOrders.{IsOrder}
use Rattle.reason_clauses.specs.LastBarred.{HasWriter, IsGivenLate, MayBeFinal, witness_of}
use Rattle.reason_clauses.specs.Numbered.{at_number}
use Rattle.reason_clauses.specs.PieceOf.{piece_of}
use Rattle.reason_clauses.specs.RefusedBy.{IsMissingNumber}
use Rattle.reason_clauses.specs.declared.cause.ReasonCause.{ReasonCause}
use Rattle.reason_clauses.specs.declared.cause.ReasonCause.TheVariants.{NoWitness, HidesItself, LastLeft, NoWriter}
use Rattle.reason_clauses.specs.declared.pieces.ProcessPieces.{ProcessPieces}
use Rattle.reason_clauses.specs.declared.pieces.SourcePieces.{SourcePieces}

-- w may be the last writer of the location: it is the last one of its process, and leaves the final value, if there is one
pub record IsPossibleLast (t : TraceValue) (location : List ℕ) (w : OperationPlace) : Type 0 where
  pub known : IsKnown t w
  pub value : ℕ
  pub leaves : value_left_at t location (named t w) ≡ Some value
  pub final_value : MayBeFinal (value_of t.final_values location) value
  pub last : (k : ℕ) → w.place < k → IsKnown t (at_number w.process k) → value_left_at t location (named t (at_number w.process k)) ≡ None

-- the witness of the piece that takes w: that of `h`, if w is not past its bound, and else that of `H`
abbrev pub late_taker : SourcePieces → OperationPlace → Option OperationPlace
late_taker pieces w = if nat_le w.place (piece_of pieces.processes.items w.process).bound then (piece_of pieces.processes.items w.process).witness else witness_of pieces.main

-- x is the witness of one of the pieces
abbrev pub IsWitnessOf : List ProcessPieces → OperationPlace → Type 0
IsWitnessOf pieces x = (p : ProcessPieces) × Contains pieces p × (p.witness ≡ Some x)

-- the trace has no operation x, or it is no witness against a last writer of the location
abbrev pub IsNoLateWitness : TraceValue → List ℕ → OperationPlace → ReasonCause → Type 0
IsNoLateWitness t location x cause = IsMissingNumber t x cause ⊎ ((IsGivenLate t location x → ⊥) × (cause ≡ NoWitness))

-- some witness is none
abbrev pub AreNotGivenLate : TraceValue → List ℕ → SourcePieces → ReasonCause → Type 0
AreNotGivenLate t location pieces cause = (x : OperationPlace) × (IsWitnessOf pieces.processes.items x ⊎ (witness_of pieces.main ≡ Some x)) × IsNoLateWitness t location x cause

-- what may be the last writer is to stand after itself, or no piece takes it
abbrev pub IsLastWriterRefused : SourcePieces → OperationPlace → ReasonCause → Type 0
IsLastWriterRefused pieces w cause = ((late_taker pieces w ≡ Some w) × (cause ≡ HidesItself)) ⊎ ((late_taker pieces w ≡ None) × (cause ≡ LastLeft))

-- a line `l`: a witness is none; or no operation writes the location, and its final value is not lost; or a possible last writer is refused
pub data IsLastRefused (t : TraceValue) (location : List ℕ) (pieces : SourcePieces) (cause : ReasonCause) : Type 0 where
  NotGiven : AreNotGivenLate t location pieces cause → IsLastRefused t location pieces cause
  Unwritten : (HasWriter t location → ⊥) → (IsLostFinal t location → ⊥) → cause ≡ NoWriter → IsLastRefused t location pieces cause
  AtWriter : (w : OperationPlace) → IsPossibleLast t location w → IsLastWriterRefused pieces w cause → IsLastRefused t location pieces cause

-- the orders that it asks for: the witness that takes it stands before a possible last writer
abbrev pub IsLastOrder : TraceValue → List ℕ → SourcePieces → OrderPair → Type 0
IsLastOrder t location pieces o = (x : OperationPlace) × (w : OperationPlace) × IsPossibleLast t location w × (late_taker pieces w ≡ Some x) × IsOrder x w o
