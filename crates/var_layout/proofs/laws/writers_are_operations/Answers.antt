use Rattle.var_layout.proofs.WriterLemmas.{writer_within, other_writer}
use Rattle.var_layout.proofs.laws.writers_are_operations.Goals as goal

pub returns-clause-writers : goal.returns-clause-writers
returns-clause-writers c = writer_within

pub returns-clause-others : goal.returns-clause-others
returns-clause-others c = other_writer
