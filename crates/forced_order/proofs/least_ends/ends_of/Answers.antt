use Rattle.std.proofs.Common.{List, rules, sym, subst, arith}
use Rattle.trace_semantics.specs.declared.operation.Op.{Op}
use Rattle.trace_semantics.specs.declared.trace.Process.{Process}
use Rattle.forced_order.specs.Times.{AreEnds, AreLeastEnds}
use Rattle.forced_order.proofs.TimeLemmas.{ends_of_none, ends_pushed, all_processes}
use Rattle.forced_order.proofs.least_ends.ends_of.Goals as goal

pub loop-k-init : goal.loop-k-init
loop-k-init c = ends_of_none c.processes-processes.result.now c.in_ok-ends.ends.items (search rules)

pub loop-k-preserved : goal.loop-k-preserved
loop-k-preserved c =
    ends_pushed c.processes-processes.result.now c.loop-k.ends.items c.push.new.self.items c.loop-k.k c.index-processes-k.result c.in_ok-of_operations.field-0 c.loop-k.invariant c.loop-k-test.true c.index-processes-k.is
    (subst (λ (p : Process). AreLeastEnds p.operations c.in_ok-of_operations.field-0) (sym c.index-processes-k.is)
    (subst (λ (ops : List Op). AreLeastEnds ops c.in_ok-of_operations.field-0) c.as_slice.ensures c.in_ok-of_operations.ensures)) c.in_ok-push.ensures.items

pub returns : goal.returns
returns c =
    subst (λ (ps : List Process). AreEnds ps c.loop-k.ends.items) c.processes-processes.ensures
    (all_processes c.processes-processes.result.now c.loop-k.ends.items c.loop-k.k (omega (arith, c.loop-k.auto.k-end, c.loop-k-test.false)) c.loop-k.invariant)
