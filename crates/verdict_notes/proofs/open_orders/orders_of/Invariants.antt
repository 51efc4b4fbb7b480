use Rattle.std.proofs.Common.{length}
use Rattle.text_lines.specs.Words.{words_of}
use Rattle.trace_semantics.specs.Trace.{operation_count}
use Rattle.verdict_notes.proofs.WrittenLemmas.{AreWrittenSoFar}
use Rattle.verdict_notes.proofs.open_orders.orders_of.Given as goal

abbrev pub invariant-loop-word : goal.invariant-loop-word
invariant-loop-word l = AreWrittenSoFar (operation_count l.layout) (words_of l.cube) (words_of l.rest) l.orders.items

abbrev pub decreases-loop-word : goal.decreases-loop-word
decreases-loop-word l = length l.rest
