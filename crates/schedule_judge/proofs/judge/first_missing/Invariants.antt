use Rattle.std.proofs.Common.{◌≡◌, true, take}
use Rattle.schedule_judge.specs.Endings.{have_come_in_front}
use Rattle.schedule_judge.proofs.judge.first_missing.Given as goal

abbrev pub invariant-loop-k : goal.invariant-loop-k
invariant-loop-k l = have_come_in_front (take l.count l.survey.names.now) l.survey.endings.items l.k ≡ true
