use Rattle.std.proofs.Common.{◌≡◌, ◌++◌, take}
use Rattle.lrat_check.specs.Rat.{others}
use Rattle.lrat_check.specs.Refuted.{negated}
use Rattle.lrat_check.proofs.rat.assume_others.Given as goal

abbrev pub invariant-loop-literal : goal.invariant-loop-literal
invariant-loop-literal l = l.trues ≡ l.initial.trues ++ negated (others l.pivot (take l.literal-index l.clause))
