use Rattle.std.proofs.Common.{◌≡◌, take}
use Rattle.trace_semantics.specs.declared.operation.OpName.{OpName}
use Rattle.trace_semantics.specs.Judgement.{has_come}
use Rattle.trace_part.specs.Choice.{IsChoice}
use Rattle.trace_semantics.specs.OpSet.{has}
use Rattle.trace_part.proofs.choice.chosen_ops.Given as goal

abbrev pub invariant-loop-k : goal.invariant-loop-k
invariant-loop-k l = ((n : OpName) → has l.set n ≡ has_come (take l.k l.names) n) × IsChoice l.trace (take l.k l.names)
