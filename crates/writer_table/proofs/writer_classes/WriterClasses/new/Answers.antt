use Rattle.writer_table.proofs.NumberLemmas.{none_apart}
use Rattle.writer_table.proofs.writer_classes.WriterClasses.new.Goals as goal

pub returns-clause-apart : goal.returns-clause-apart
returns-clause-apart c = none_apart (record { by_value = c.args.by_value; numbers = c.new.result }) c.new.ensures.empty
