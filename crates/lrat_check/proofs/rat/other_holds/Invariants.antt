use Rattle.std.proofs.Common.{◌≡◌, take}
use Rattle.std.specs.List.{list_any}
use Rattle.lrat_check.specs.Propagation.{has}
use Rattle.lrat_check.specs.Rat.{others}
use Rattle.lrat_check.proofs.rat.other_holds.Given as goal

abbrev pub invariant-loop-literal : goal.invariant-loop-literal
invariant-loop-literal l = l.found ≡ list_any (has l.trues) (others l.pivot (take l.literal-index l.clause))
