use Rattle.std.proofs.Common.{take}
use Rattle.lrat_check.specs.Standing.{IsStanding}
use Rattle.lrat_check.proofs.propagation.standing_of.Given as goal

abbrev pub invariant-loop-literal : goal.invariant-loop-literal
invariant-loop-literal l = IsStanding l.trues (take l.literal-index l.clause) l.standing
