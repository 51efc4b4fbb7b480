use Rattle.clause_blocks.proofs.ModelToSchedule.ModelOrderLemmas.{sorted_order}
use Rattle.clause_blocks.proofs.meaning.in_order_where_sorted.Goals as goal

pub returns : goal.returns
returns c t value names ok is = sorted_order value t names ok is
