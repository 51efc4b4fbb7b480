use Rattle.std.proofs.Common.{take}
use Rattle.std.specs.List.{All}
use Rattle.order_clauses.specs.Numbered.{IsKnown}
use Rattle.reason_clauses.specs.declared.pieces.ProcessPieces.{ProcessPieces}
use Rattle.reason_clauses.specs.Numbered.{IsGivenFront}
use Rattle.reason_clauses.proofs.source.want_fronts.Given as goal

abbrev pub invariant-loop-piece : goal.invariant-loop-piece
invariant-loop-piece l = IsKnown l.trace l.reader → All (λ (p : ProcessPieces). IsGivenFront l.trace l.location l.value l.reader p.witness) (take l.piece-index l.pieces)
