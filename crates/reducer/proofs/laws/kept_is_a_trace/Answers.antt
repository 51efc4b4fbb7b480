use Rattle.reducer.proofs.KeptTrace.TraceLemmas.{kept_is_trace}
use Rattle.reducer.proofs.laws.kept_is_a_trace.Goals as goal

pub returns : goal.returns
returns c = kept_is_trace
