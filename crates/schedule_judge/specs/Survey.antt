-- What the judge looks up.
use Rattle.schedule_judge.specs.declared.survey.Survey.{Survey}
use Rattle.schedule_judge.specs.Endings.{AreEndings}
use Rattle.schedule_judge.specs.Tables.{FindsProcesses, FindsEarlyIn}

-- the tables are those of the trace and the names
pub record IsSurvey (survey : Survey) : Type 0 where
  pub processes : FindsProcesses survey.trace.now.processes survey.processes
  pub early : FindsEarlyIn survey.trace.now.before survey.names.now survey.early
  pub endings : AreEndings survey.trace.now survey.endings.items
