-- The orders that a maker makes are a clause of its kind.
use Rattle.std.proofs.Common.{List}
use Rattle.std.specs.List.{Contains}
use Rattle.reason_notes.proofs.DistinctLemmas.{says_all}
use Rattle.std.specs.Prelude.{Result, Ok, Err, IfOk}
use Rattle.text_lines.specs.declared.plain_fault.PlainFault.{PlainFault}
use Rattle.reason_clauses.specs.declared.cause.ReasonCause.{ReasonCause}
use Rattle.reason_text.specs.declared.reason_line.ReasonLine.{ReasonLine}
use Rattle.reason_check.specs.LineClauses.{IsClauseOfLine}
use Rattle.reason_notes.specs.declared.line_orders.LineOrders.{LineOrders}
use Rattle.reason_notes.specs.declared.line_orders.LineOrders.TheVariants.{Silent, Made, Derivation}
use Rattle.reason_notes.specs.Noted.{AreMadeFor, AreOrdersOf}
use Rattle.trace_semantics.specs.declared.operation.OpName.{OpName}
use Rattle.trace_semantics.specs.Trace.{TraceValue}
use Rattle.order_clauses.specs.Numbered.{named_orders}
use Rattle.order_clauses.specs.declared.order_pair.OrderPair.{OrderPair}
use Rattle.reason_clauses.specs.Made.{Makes}

-- and so are those that have each of them
pub kept_clause : (t : TraceValue) (orders kept : List OrderPair) (Is : List (OpName × OpName) → Type 0) → ((p : OrderPair) → Contains orders p → Contains kept p) → Makes t orders Is → Is (named_orders t kept)
kept_clause t orders kept Is all made = made (named_orders t kept) (says_all t orders kept all)

module _ (t : TraceValue) (line : ReasonLine) (Is : List (OpName × OpName) → Type 0) (kind : (clause : List (OpName × OpName)) → Is clause → IsClauseOfLine t line clause) where
  orders_of_made : (outcome : LineOrders) → AreMadeFor t Is outcome → AreOrdersOf t line outcome
  orders_of_made Silent h = absurd h
  orders_of_made (Made orders) h = kind (named_orders t orders.items) h
  orders_of_made Derivation h = absurd h

  -- a clause of this kind is one of the line
  pub orders_if_made : (result : Result LineOrders (PlainFault ReasonCause)) → IfOk result (AreMadeFor t Is) → IfOk result (AreOrdersOf t line)
  orders_if_made (Ok outcome) h = orders_of_made outcome h
  orders_if_made (Err refusal) h = tt
