use Rattle.trace_text.proofs.OneTraceLemmas.{one_canonical}
use Rattle.trace_text.proofs.trace_laws.one_canonical_trace.Goals as goal

pub returns : goal.returns
returns c = one_canonical
