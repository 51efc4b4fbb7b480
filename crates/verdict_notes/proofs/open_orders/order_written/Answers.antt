use Rattle.trace_semantics.specs.Trace.{operation_count}
use Rattle.verdict_notes.proofs.LiteralLemmas.{none_written}
use Rattle.verdict_notes.proofs.open_orders.order_written.Goals as goal

pub returns-in_default : goal.returns-in_default
returns-in_default c = none_written (operation_count c.args.layout.now) c.args.word.now c.recall_limits.ensures.few c.in_default.ensures
