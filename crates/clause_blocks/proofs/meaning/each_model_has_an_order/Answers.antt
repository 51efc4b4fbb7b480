use Rattle.clause_blocks.proofs.ModelToSchedule.ModelOrderLemmas.{model_order}
use Rattle.clause_blocks.proofs.meaning.each_model_has_an_order.Goals as goal

pub returns : goal.returns
returns c t value ok model = model_order value t ok model
