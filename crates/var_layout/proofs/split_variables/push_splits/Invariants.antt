use Rattle.std.proofs.Common.{◌≡◌, ◌++◌}
use Rattle.var_layout.specs.Split.{splits_among}
use Rattle.var_layout.proofs.SplitLemmas.{pairs_below}
use Rattle.var_layout.proofs.split_variables.push_splits.Given as goal

abbrev pub invariant-loop-j : goal.invariant-loop-j
invariant-loop-j l = l.variables.items ≡ l.initial.variables.items ++ splits_among l.layout (pairs_below l.i l.j)
