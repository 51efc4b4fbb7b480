-- What is read from the matches is what the words give.
use Rattle.std.proofs.Common.{Some, codes, refl}
use Rattle.command_line.proofs.verify_command.verify_line.Goals as goal

pub returns : goal.returns
returns c = c.command_line_of.ensures (Some (codes "verify")) (record {
  command_name = refl;
  trace_path = c.text_of.ensures;
  cert_path = c.optional_text_of.ensures;
  workers_text = c.workers_of.ensures;
  split_text = c.split_of.ensures;
  budget_text = c.budget_of.ensures;
  rounds_text = c.rounds_of.ensures;
  progress_text = c.flag_of.ensures;
})
