use Rattle.reason_clauses.specs.AddedOrders.{AddsOnly}
use Rattle.reason_clauses.specs.CycleRefused.{IsTurnedStep}
use Rattle.reason_clauses.proofs.CycleLemmas.{AreTurned}
use Rattle.reason_clauses.proofs.cycle.cycle_clause.Given as goal

abbrev pub invariant-loop-place : goal.invariant-loop-place
invariant-loop-place l = AreTurned l.trace l.orders.items l.operations l.place × AddsOnly l.fn.orders.items l.orders.items (IsTurnedStep l.operations)
