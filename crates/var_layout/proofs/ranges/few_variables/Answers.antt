use Rattle.std.proofs.Common.{arith}
use Rattle.var_layout.proofs.BoundLemmas.{few_variables}
use Rattle.var_layout.proofs.ranges.few_variables.Goals as goal

pub returns : goal.returns
returns c t ok few = omega (arith, few_variables t ok few)
