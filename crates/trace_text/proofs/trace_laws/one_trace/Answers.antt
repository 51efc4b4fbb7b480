use Rattle.trace_text.proofs.OneTraceLemmas.{one_spelled}
use Rattle.trace_text.proofs.trace_laws.one_trace.Goals as goal

pub returns : goal.returns
returns c = one_spelled
