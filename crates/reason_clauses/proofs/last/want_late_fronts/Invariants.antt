use Rattle.std.proofs.Common.{◌≡◌, take}
use Rattle.std.specs.Prelude.{IfSome}
use Rattle.std.specs.List.{All}
use Rattle.trace_semantics.specs.Trace.{value_of}
use Rattle.reason_clauses.specs.declared.pieces.ProcessPieces.{ProcessPieces}
use Rattle.reason_clauses.specs.LastBarred.{IsGivenLate}
use Rattle.reason_clauses.proofs.last.want_late_fronts.Given as goal

abbrev pub invariant-loop-piece : goal.invariant-loop-piece
invariant-loop-piece l = value_of l.trace.final_values l.location ≡ l.final_value → All (λ (p : ProcessPieces). IfSome p.witness (IsGivenLate l.trace l.location)) (take l.piece-index l.pieces)
