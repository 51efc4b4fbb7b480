use Rattle.clause_blocks.proofs.ModelToSchedule.ModelOrderLemmas.{one_order}
use Rattle.clause_blocks.proofs.meaning.one_order.Goals as goal

pub returns : goal.returns
returns c t value names others ok first second = one_order value t names others ok first second
