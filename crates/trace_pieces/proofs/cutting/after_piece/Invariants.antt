use Rattle.std.proofs.Common.{◌+◌, ◌≤◌, length}
use Rattle.trace_pieces.proofs.ScanLemmas.{PassedOn}
use Rattle.trace_pieces.proofs.cutting.after_piece.Given as goal

abbrev pub invariant-loop-line : goal.invariant-loop-line
invariant-loop-line l = PassedOn l.text l.rest l.lines l.said × (l.lines + length l.rest ≤ length l.text)

abbrev pub decreases-loop-line : goal.decreases-loop-line
decreases-loop-line l = length l.rest
