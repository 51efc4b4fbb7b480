use Rattle.trace_semantics.proofs.JudgementLemmas.{one_judgement}
use Rattle.trace_semantics.proofs.laws.one_judgement.Goals as goal

pub returns : goal.returns
returns c = one_judgement
