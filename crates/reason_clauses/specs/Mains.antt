-- What is given of a main piece.
use Rattle.std.specs.Prelude.{⊤, ℕ, List}
use Rattle.trace_semantics.specs.Trace.{TraceValue}
use Rattle.writer_table.specs.declared.operation_place.OperationPlace.{OperationPlace}
use Rattle.reason_clauses.specs.declared.barring.MainPiece.{MainPiece}
use Rattle.reason_clauses.specs.declared.barring.MainPiece.TheVariants.{Plain, Witness, Between}
use Rattle.order_clauses.specs.Numbered.{IsKnown}
use Rattle.reason_clauses.specs.Numbered.{IsGivenWitness}

-- its witness is one, and its operation is of the trace
abbrev pub IsGivenMain : TraceValue → List ℕ → ℕ → OperationPlace → MainPiece → Type 0
IsGivenMain t location d r Plain = ⊤
IsGivenMain t location d r (Witness x) = IsGivenWitness t location d r x
IsGivenMain t location d r (Between u) = IsKnown t u
