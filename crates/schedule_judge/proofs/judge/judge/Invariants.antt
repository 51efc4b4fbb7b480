use Rattle.schedule_judge.specs.Walk.{IsTimedWalk}
use Rattle.schedule_judge.proofs.judge.judge.Given as goal

abbrev pub invariant-loop-i : goal.invariant-loop-i
invariant-loop-i l = IsTimedWalk l.survey l.come.counts.items l.memory l.next l.i
