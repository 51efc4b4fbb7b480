use Rattle.std.proofs.Common.{◌≡◌, ◌++◌, take}
use Rattle.verdict_report.specs.Pieces.{joined}
use Rattle.verdict_report.proofs.pieces.put_together.Given as goal

abbrev pub invariant-loop-piece : goal.invariant-loop-piece
invariant-loop-piece l = l.line.items ≡ l.fn.line.items ++ joined (take l.piece-index l.pieces)
