use Rattle.clause_blocks.proofs.ModelToSchedule.ModelOrderLemmas.{model_order}
use Rattle.clause_blocks.proofs.ModelToSchedule.ModelReadLemmas.{model_legal}
use Rattle.clause_blocks.proofs.ScheduleToModel.ScheduleLawLemmas.{schedule_values}
use Rattle.clause_blocks.proofs.meaning.satisfiable_exactly_where_schedulable.Goals as goal

pub returns : goal.returns
returns c t ok = (
  (λ m. (let order = model_order m.0 t ok m.1 in (order.0, model_legal m.0 t order.0 ok m.1 order.1))),
  (λ s. (let made = schedule_values t s.0 ok s.1 in (made.0, made.1))),
)
