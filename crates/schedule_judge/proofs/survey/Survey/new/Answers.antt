use Rattle.std.proofs.Common.{subst}
use Rattle.schedule_judge.specs.Endings.{AreEndingsOf}
use Rattle.schedule_judge.specs.Tables.{FindsProcesses, FindsEarlyIn}
use Rattle.schedule_judge.proofs.EndingLemmas.{endings_known}
use Rattle.schedule_judge.proofs.survey.Survey.new.Goals as goal

pub returns-clause-tables : goal.returns-clause-tables
returns-clause-tables c = record {
  processes = subst (λ ps. FindsProcesses ps c.in_ok-processes.processes) c.processes.ensures c.in_ok-processes.ensures;
  early = subst (λ pairs. FindsEarlyIn pairs c.args.names.now c.in_ok-early.early) c.before-pairs.ensures c.in_ok-early.ensures;
  endings = endings_known c.args.trace.now c.in_ok-endings.endings.items c.recall_invariant.ensures (subst (λ ps. AreEndingsOf ps c.in_ok-endings.endings.items) c.processes-timed.ensures c.in_ok-endings.ensures);
}
