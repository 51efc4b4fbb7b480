use Rattle.std.proofs.Common.{List, map, subst, sym}
use Rattle.std.specs.Prelude.{IfOk}
use Rattle.order_clauses.specs.Numbered.{named}
use Rattle.reason_clauses.specs.Made.{IsCycleOf}
use Rattle.reason_text.specs.declared.reason_line.ReasonLine.{ReasonLine}
use Rattle.reason_text.specs.declared.reason_line.ReasonLine.TheVariants.{Cycle}
use Rattle.writer_table.specs.declared.operation_place.OperationPlace.{OperationPlace}
use Rattle.reason_notes.specs.Noted.{AreMadeFor, AreOrdersOf}
use Rattle.reason_notes.proofs.MadeLemmas.{orders_if_made}
use Rattle.reason_notes.proofs.line_orders.orders_of_line.Goals as goal

pub returns-in-Cycle : goal.returns-in-Cycle
returns-in-Cycle c =
    let t = c.args.trace.now in
    let made = subst (λ (l : List OperationPlace). IfOk c.cycle_orders.result (AreMadeFor t (IsCycleOf t (map (named t) l)))) c.as_slice.ensures.value c.cycle_orders.ensures in
    subst (λ (l : ReasonLine). IfOk c.cycle_orders.result (AreOrdersOf t l)) (sym c.in-Cycle.is) (orders_if_made t (Cycle c.in-Cycle.operations) (IsCycleOf t (map (named t) c.in-Cycle.operations.items)) (λ clause k. k) c.cycle_orders.result made)
