use Rattle.std.proofs.Common.{take, ◌∙◌, sym}
use Rattle.schedule_judge.proofs.ProgramOrderLemmas.{all_have_come}
use Rattle.schedule_judge.proofs.judge.have_come.Goals as goal

pub returns-else-n-eq0 : goal.returns-else-n-eq0
returns-else-n-eq0 c = c.has_come.ensures ∙ sym (all_have_come (take c.args.count c.args.survey.now.names.now) c.args.process.now c.args.n c.if-n-eq0.false c.requires.order)
