-- What is read from the matches is what the words give.
use Rattle.std.proofs.Common.{Some, codes, refl}
use Rattle.command_line.proofs.batch_command.batch_line.Goals as goal

pub returns-clause-asks : goal.returns-clause-asks
returns-clause-asks c = c.command_line_of.ensures (Some (codes "batch")) (record {
  command_name = refl;
  traces_paths = c.in_ok-texts_of.ensures;
  workers_text = c.workers_of.ensures;
  split_text = c.split_of.ensures;
  budget_text = c.budget_of.ensures;
  json_text = c.output_of.ensures.json;
  schedules_text = c.output_of.ensures.schedules;
  keep_path = c.output_of.ensures.keep;
})
