use Rattle.clause_blocks.proofs.ModelToSchedule.ModelReadLemmas.{model_legal}
use Rattle.clause_blocks.proofs.meaning.order_of_a_model_is_legal.Goals as goal

pub returns : goal.returns
returns c t value names ok model order = model_legal value t names ok model order
