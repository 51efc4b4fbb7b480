use Rattle.std.proofs.Common.{length}
use Rattle.trace_text.proofs.LineWords.ReferenceLemmas.{IsLookedAt}
use Rattle.trace_text.proofs.references.check_lines.Given as goal

abbrev pub invariant-loop-line : goal.invariant-loop-line
invariant-loop-line l = IsLookedAt l.fn.version l.fn.processes l.fn.text l.next l.rest

abbrev pub decreases-loop-line : goal.decreases-loop-line
decreases-loop-line l = length l.rest
