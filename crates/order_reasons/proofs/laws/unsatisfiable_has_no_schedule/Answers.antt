use Rattle.order_reasons.proofs.ScheduleModel.{no_schedule}
use Rattle.order_reasons.proofs.laws.unsatisfiable_has_no_schedule.Goals as goal

pub returns : goal.returns
returns c t pairs clauses holds none names legal = no_schedule t pairs clauses holds none names legal
