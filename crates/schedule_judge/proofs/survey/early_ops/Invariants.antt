use Rattle.std.proofs.Common.{take}
use Rattle.schedule_judge.specs.Tables.{FindsEarly}
use Rattle.schedule_judge.proofs.survey.early_ops.Given as goal

abbrev pub invariant-loop-pair : goal.invariant-loop-pair
invariant-loop-pair l = FindsEarly (take l.pair-index l.before) l.fn.places l.early
