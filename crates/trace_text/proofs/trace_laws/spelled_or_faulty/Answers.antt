use Rattle.trace_text.proofs.Reading.TraceReadLemmas.{spelled_or_refused}
use Rattle.trace_text.proofs.trace_laws.spelled_or_faulty.Goals as goal

pub returns : goal.returns
returns c = spelled_or_refused
