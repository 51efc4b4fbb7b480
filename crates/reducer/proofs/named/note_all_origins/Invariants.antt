use Rattle.std.proofs.Common.{◌≡◌, ◌||◌, take}
use Rattle.std.specs.List.{list_any}
use Rattle.trace_semantics.specs.declared.operation.Op.{Op}
use Rattle.trace_semantics.specs.declared.operation.OpName.{OpName}
use Rattle.trace_semantics.specs.declared.trace.Process.{Process}
use Rattle.trace_semantics.specs.Operation.{origin_of}
use Rattle.trace_semantics.specs.OpSet.{has}
use Rattle.reducer.specs.Reduction.{is_from}
use Rattle.reducer.proofs.named.note_all_origins.Given as goal

abbrev pub invariant-loop-process : goal.invariant-loop-process
invariant-loop-process l = (n : OpName) → has l.set n ≡ (list_any (λ (p : Process). list_any (λ (op : Op). is_from n (origin_of op)) p.operations) (take l.process-index l.processes) || has l.initial.set n)
