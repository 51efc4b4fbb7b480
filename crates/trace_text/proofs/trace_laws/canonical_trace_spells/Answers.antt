use Rattle.trace_text.proofs.Writing.TraceWrittenLemmas.{written_spells}
use Rattle.trace_text.proofs.trace_laws.canonical_trace_spells.Goals as goal

pub returns : goal.returns
returns c = written_spells
