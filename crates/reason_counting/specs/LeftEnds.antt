-- What pieces leave of the last writers of a location.
use Rattle.std.specs.Prelude.{◌≡◌, ◌⊎◌, false, ℕ, List, Some, None}
use Rattle.std.specs.List.{Contains}
use Rattle.trace_semantics.specs.declared.operation.OpName.{OpName}
use Rattle.trace_semantics.specs.Trace.{TraceValue, value_of}
use Rattle.trace_semantics.specs.ValueAfter.{value_left_at}
use Rattle.writer_table.specs.declared.operation_place.OperationPlace.{OperationPlace}
use Rattle.writer_table.specs.declared.runs.Run.{Run}
use Rattle.order_clauses.specs.declared.order_pair.OrderPair.{OrderPair}
use Rattle.order_clauses.specs.Numbered.{named}
use Rattle.order_reasons.specs.Sources.{IsLastBarred}
use Rattle.reason_clauses.specs.declared.pieces.SourcePieces.{SourcePieces}
use Rattle.reason_clauses.specs.Barred.{IsKnownRun}
use Rattle.reason_clauses.specs.LastBarred.{AreGivenLate, HasWriter, MayBeFinal}
use Rattle.reason_clauses.specs.LastRefused.{AreNotGivenLate, IsPossibleLast, late_taker}
use Rattle.reason_clauses.specs.declared.cause.ReasonCause.{ReasonCause}
use Rattle.reason_clauses.specs.declared.cause.ReasonCause.TheVariants.{HidesItself, NoWriter}
use Rattle.reason_clauses.specs.Numbered.{at_number, AreIn}
use Rattle.reason_counting.specs.declared.left_sources.LeftSources.{LeftSources}
use Rattle.reason_counting.specs.declared.left_sources.LeftStretch.{LeftStretch}
use Rattle.reason_counting.specs.Left.{IsLeftAt}

-- each clause that has the new orders bars what may be the last writer of the location in the run, or it is left
abbrev pub IsLastRunLeft : TraceValue → List OrderPair → List LeftStretch → List ℕ → SourcePieces → Run → Type 0
IsLastRunLeft t new left location pieces run = (clause : List (OpName × OpName)) → AreIn t new clause → AreGivenLate t location pieces → IsKnownRun t run → (k e : ℕ) → Contains run.places k →
    value_left_at t location (named t (at_number run.process k)) ≡ Some e → MayBeFinal (value_of t.final_values location) e → IsLastBarred t clause location (named t (at_number run.process k)) ⊎ IsLeftAt left e run.process k

-- the same in each of the runs
abbrev pub AreLastRunsLeft : TraceValue → List OrderPair → List LeftStretch → List ℕ → SourcePieces → List Run → Type 0
AreLastRunsLeft t new left location pieces runs = (run : Run) → Contains runs run → IsLastRunLeft t new left location pieces run

-- x is of n alone, which leaves the value
abbrev pub IsOneStretch : OperationPlace → ℕ → LeftStretch → Type 0
IsOneStretch n value x = x ≡ record { process = n.process; value = value; first = n.place; last = n.place }

-- x is of one operation, which may be the last writer of the location, and which no piece takes
abbrev pub IsOtherEnd : TraceValue → List ℕ → SourcePieces → LeftStretch → Type 0
IsOtherEnd t location pieces x =
    (w : OperationPlace) × (value : ℕ) × IsOneStretch w value x × IsPossibleLast t location w × (value_left_at t location (named t w) ≡ Some value) × (late_taker pieces w ≡ None)

-- what is left of the last writers of the location is what no piece takes
pub record AreOtherEnds (t : TraceValue) (location : List ℕ) (pieces : SourcePieces) (left : LeftSources) : Type 0 where
  pub location_is : left.location.now ≡ location
  pub stretches : (x : LeftStretch) → Contains left.stretches.items x → IsOtherEnd t location pieces x
  pub initial : left.is_initial_left ≡ false

-- what may be the last writer is to stand after itself
abbrev pub IsEndTakenRefused : TraceValue → List ℕ → SourcePieces → ReasonCause → Type 0
IsEndTakenRefused t location pieces cause = (w : OperationPlace) × IsPossibleLast t location w × (late_taker pieces w ≡ Some w) × (cause ≡ HidesItself)

-- the end of a location: a witness is none, no operation writes the location, or what may be the last writer is to stand after itself
pub data IsEndRefused (t : TraceValue) (location : List ℕ) (pieces : SourcePieces) (cause : ReasonCause) : Type 0 where
  EndNotGiven : AreNotGivenLate t location pieces cause → IsEndRefused t location pieces cause
  EndUnwritten : (HasWriter t location → ⊥) → cause ≡ NoWriter → IsEndRefused t location pieces cause
  EndTaken : IsEndTakenRefused t location pieces cause → IsEndRefused t location pieces cause
