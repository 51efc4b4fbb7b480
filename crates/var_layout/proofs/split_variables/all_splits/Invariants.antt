use Rattle.std.proofs.Common.{◌≡◌}
use Rattle.var_layout.proofs.SplitLemmas.{splits_below}
use Rattle.var_layout.proofs.split_variables.all_splits.Given as goal

abbrev pub invariant-loop-i : goal.invariant-loop-i
invariant-loop-i l = l.variables.items ≡ splits_below l.layout l.i
