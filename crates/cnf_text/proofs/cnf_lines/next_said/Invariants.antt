use Rattle.std.proofs.Common.{length}
use Rattle.text_lines.specs.Lines.{lines_of}
use Rattle.cnf_text.proofs.CnfLineLemmas.{IsPassed}
use Rattle.cnf_text.proofs.cnf_lines.next_said.Given as goal

abbrev pub invariant-loop-line : goal.invariant-loop-line
invariant-loop-line l = IsPassed (lines_of l.fn.text) l.first (length l.fn.text) (lines_of l.rest) l.number (length l.rest)

abbrev pub decreases-loop-line : goal.decreases-loop-line
decreases-loop-line l = length l.rest
