-- What is given by the pieces of a line.
use Rattle.std.specs.Prelude.{ℕ, List}
use Rattle.std.specs.List.{All}
use Rattle.trace_semantics.specs.Trace.{TraceValue}
use Rattle.writer_table.specs.declared.operation_place.OperationPlace.{OperationPlace}
use Rattle.reason_clauses.specs.declared.pieces.ProcessPieces.{ProcessPieces}
use Rattle.reason_clauses.specs.declared.pieces.SourcePieces.{SourcePieces}
use Rattle.reason_clauses.specs.Mains.{IsGivenMain}
use Rattle.reason_clauses.specs.Numbered.{IsGivenFront}

-- each witness is one, and the operation of the main piece is of the trace
pub record AreGiven (t : TraceValue) (location : List ℕ) (d : ℕ) (r : OperationPlace) (pieces : SourcePieces) : Type 0 where
  pub processes : All (λ (p : ProcessPieces). IsGivenFront t location d r p.witness) pieces.processes.items
  pub initial : IsGivenFront t location d r pieces.initial
  pub main : IsGivenMain t location d r pieces.main
