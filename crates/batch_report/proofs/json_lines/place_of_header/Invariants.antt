use Rattle.std.proofs.Common.{◌≡◌, ◌+◌, ◌≤◌, length}
use Rattle.batch_report.specs.JsonLines.{said_at}
use Rattle.text_lines.specs.Lines.{lines_of}
use Rattle.batch_report.proofs.json_lines.place_of_header.Given as goal

abbrev pub invariant-loop-line : goal.invariant-loop-line
invariant-loop-line l = (said_at l.passed (lines_of l.rest) ≡ said_at 0 (lines_of l.text)) × (l.passed + length l.rest ≤ length l.text)

abbrev pub decreases-loop-line : goal.decreases-loop-line
decreases-loop-line l = length l.rest
