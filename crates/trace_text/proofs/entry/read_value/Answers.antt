use Rattle.trace_semantics.proofs.WrittenLemmas.{value_written}
use Rattle.trace_text.proofs.entry.read_value.Goals as goal

pub returns-clause-written : goal.returns-clause-written
returns-clause-written c = value_written c.read_plain.result c.args.word.now c.read_plain.ensures
