use Rattle.trace_text.proofs.NeverFaulty.TraceClearLemmas.{never_both}
use Rattle.trace_text.proofs.trace_laws.never_spelled_and_faulty.Goals as goal

pub returns : goal.returns
returns c = never_both
