use Rattle.std.proofs.Common.{◌≡◌, ℕ, ◌<◌, false}
use Rattle.var_layout.specs.Numbers.{in_one_process}
use Rattle.var_layout.proofs.choice_variables.leader_of.Given as goal

abbrev pub invariant-loop-k : goal.invariant-loop-k
invariant-loop-k l = (j : ℕ) → j < l.k → in_one_process l.numbering j l.i ≡ false
