use Rattle.std.proofs.Common.{length}
use Rattle.trace_text.proofs.LineWords.LineLemmas.{IsBeforeHeader}
use Rattle.trace_text.proofs.header.read_header.Given as goal

abbrev pub invariant-loop-line : goal.invariant-loop-line
invariant-loop-line l = IsBeforeHeader l.text l.next l.rest

abbrev pub decreases-loop-line : goal.decreases-loop-line
decreases-loop-line l = length l.rest
