use Rattle.clause_blocks.proofs.ScheduleToModel.ScheduleLawLemmas.{schedule_values}
use Rattle.clause_blocks.proofs.meaning.each_legal_schedule_has_a_model.Goals as goal

pub returns : goal.returns
returns c t names ok legal = schedule_values t names ok legal
