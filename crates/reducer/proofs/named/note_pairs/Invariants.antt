use Rattle.std.proofs.Common.{◌≡◌, ◌||◌, take}
use Rattle.std.specs.List.{list_any}
use Rattle.trace_semantics.specs.declared.operation.OpName.{OpName}
use Rattle.trace_semantics.specs.Operation.{same_op}
use Rattle.trace_semantics.specs.OpSet.{has}
use Rattle.reducer.proofs.named.note_pairs.Given as goal

abbrev pub invariant-loop-pair : goal.invariant-loop-pair
invariant-loop-pair l = (n : OpName) → has l.set n ≡ (list_any (λ (pair : OpName × OpName). same_op pair.0 n || same_op pair.1 n) (take l.pair-index l.pairs) || has l.initial.set n)
