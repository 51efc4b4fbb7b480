use Rattle.std.proofs.Common.{length}
use Rattle.trace_text.proofs.LineWords.LineLemmas.{IsReadSoFar}
use Rattle.trace_text.proofs.trace_reader.read_body.Given as goal

abbrev pub invariant-loop-line : goal.invariant-loop-line
invariant-loop-line l = IsReadSoFar l.fn.text l.header.version l.next l.rest l.reader

abbrev pub decreases-loop-line : goal.decreases-loop-line
decreases-loop-line l = length l.rest
