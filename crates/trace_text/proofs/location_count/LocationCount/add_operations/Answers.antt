use Rattle.std.proofs.Common.{ℕ, List, ◌++◌, ◌∙◌, subst, arith}
use Rattle.trace_semantics.specs.Operation.{location_of}
use Rattle.trace_text.specs.LocationCount.{IsCountOf, CountsOne}
use Rattle.trace_text.proofs.CountedLemmas.{counted_one, counted_none, counted_more, counted_all, one_each}
use Rattle.trace_text.proofs.NamedLocations.{operation_names}
use Rattle.trace_text.proofs.location_count.LocationCount.add_operations.Goals as goal

pub loop-operation-init : goal.loop-operation-init
loop-operation-init c = counted_none operation_names c.args.operations.now c.args.self.now

pub loop-operation-preserved : goal.loop-operation-preserved
loop-operation-preserved c = counted_more operation_names c.args.operations.now c.loop-operation.operation-index c.operation-item.result c.args.self.now c.loop-operation.self c.add.new.self c.loop-operation-test.true c.operation-item.is c.loop-operation.invariant
    (λ names h. counted_one names (location_of c.operation-item.result) c.loop-operation.self c.add.new.self (subst (λ (n : List ℕ). CountsOne c.loop-operation.self c.add.new.self n) (c.as_bytes.ensures ∙ c.location.ensures) c.in_ok-add.ensures) h)

pub returns : goal.returns
returns c = λ names h. subst (λ (l : List (List ℕ)). IsCountOf (names ++ l) c.loop-operation.self) (one_each location_of c.args.operations.now) (counted_all operation_names c.args.operations.now c.loop-operation.operation-index c.args.self.now c.loop-operation.self (omega arith) c.loop-operation.invariant names h)
