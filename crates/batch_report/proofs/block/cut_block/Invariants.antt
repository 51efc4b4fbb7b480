use Rattle.std.proofs.Common.{◌+◌, ◌≤◌, length}
use Rattle.batch_report.specs.Blocks.{AreCutOff}
use Rattle.batch_report.proofs.block.cut_block.Given as goal

abbrev pub invariant-loop-cut : goal.invariant-loop-cut
invariant-loop-cut l =
    AreCutOff l.is_last l.before l.text l.pieces.items l.passed l.rest
    × (l.passed + length l.rest ≤ l.before + length l.text)
    × (length l.pieces.items + length l.rest ≤ length l.text)

abbrev pub decreases-loop-cut : goal.decreases-loop-cut
decreases-loop-cut l = length l.rest
