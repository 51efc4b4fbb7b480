use Rattle.std.proofs.Common.{List, ◌++◌, map, subst, arith}
use Rattle.trace_semantics.specs.declared.operation.Op.{Op}
use Rattle.trace_semantics.specs.Operation.{location_of}
use Rattle.trace_text.specs.LocationCount.{IsCountOf}
use Rattle.trace_text.proofs.CountedLemmas.{counted_none, counted_more, counted_all}
use Rattle.trace_text.proofs.NamedLocations.{process_names}
use Rattle.trace_text.proofs.location_count.LocationCount.add_processes.Goals as goal

pub loop-process-init : goal.loop-process-init
loop-process-init c = counted_none process_names c.args.processes.now c.args.self.now

pub loop-process-preserved : goal.loop-process-preserved
loop-process-preserved c = counted_more process_names c.args.processes.now c.loop-process.process-index c.process-item.result c.args.self.now c.loop-process.self c.add_operations.new.self c.loop-process-test.true c.process-item.is c.loop-process.invariant
    (λ names h. subst (λ (l : List Op). IsCountOf (names ++ map location_of l) c.add_operations.new.self) c.as_slice.ensures (c.in_ok-add_operations.ensures names h))

pub returns : goal.returns
returns c = counted_all process_names c.args.processes.now c.loop-process.process-index c.args.self.now c.loop-process.self (omega arith) c.loop-process.invariant
