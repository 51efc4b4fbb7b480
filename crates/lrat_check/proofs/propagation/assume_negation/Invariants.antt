use Rattle.std.proofs.Common.{take, false}
use Rattle.lrat_check.specs.Standing.{IsAssumed}
use Rattle.lrat_check.proofs.propagation.assume_negation.Given as goal

abbrev pub invariant-loop-literal : goal.invariant-loop-literal
invariant-loop-literal l = IsAssumed (take l.literal-index l.clause) l.trues false
