use Rattle.std.proofs.Common.{take}
use Rattle.reason_check.specs.Gathered.{AreGathered}
use Rattle.reason_check.proofs.gathered_pieces.gather.Given as goal

abbrev pub invariant-loop-piece : goal.invariant-loop-piece
invariant-loop-piece l = AreGathered (take l.piece-index l.listed) l.pieces
