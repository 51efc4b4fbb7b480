use Rattle.std.proofs.Common.{◌≡◌, ◌||◌, take}
use Rattle.std.specs.List.{list_any}
use Rattle.trace_semantics.specs.declared.operation.Op.{Op}
use Rattle.trace_semantics.specs.declared.operation.OpName.{OpName}
use Rattle.trace_semantics.specs.Operation.{origin_of}
use Rattle.trace_semantics.specs.OpSet.{has}
use Rattle.reducer.specs.Reduction.{is_from}
use Rattle.reducer.proofs.named.note_origins.Given as goal

abbrev pub invariant-loop-op : goal.invariant-loop-op
invariant-loop-op l = (n : OpName) → has l.set n ≡ (list_any (λ (op : Op). is_from n (origin_of op)) (take l.op-index l.operations) || has l.initial.set n)
