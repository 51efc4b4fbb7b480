use Rattle.text_lines.specs.Words.{words_of}
use Rattle.trace_semantics.specs.Trace.{operation_count}
use Rattle.verdict_notes.proofs.WrittenLemmas.{at_end}
use Rattle.verdict_notes.proofs.open_orders.orders_of.Goals as goal

pub returns : goal.returns
returns c = at_end (operation_count c.args.layout.now) (words_of c.args.cube.now) (words_of c.loop-word.rest.now) c.loop-word.orders.items c.in_default.ensures.words c.loop-word.invariant
