use Rattle.std.proofs.Common.{◌≡◌, length, take}
use Rattle.lrat_check.proofs.true_literals.keep_first.Given as goal

abbrev pub invariant-loop-trues : goal.invariant-loop-trues
invariant-loop-trues l = take l.count l.trues ≡ take l.count l.fn.trues

abbrev pub decreases-loop-trues : goal.decreases-loop-trues
decreases-loop-trues l = length l.trues
