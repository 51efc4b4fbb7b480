use Rattle.trace_semantics.proofs.JudgementLemmas.{some_judgement}
use Rattle.trace_semantics.proofs.laws.always_judged.Goals as goal

pub returns : goal.returns
returns c = some_judgement
