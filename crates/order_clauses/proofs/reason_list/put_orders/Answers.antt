use Rattle.std.proofs.Common.{◌≡◌, ◌<◌, ℕ, List, take, drop, length, get_or, sym, ◌∙◌, subst, inl, inr, refl, rules}
use Rattle.std.specs.List.{Contains}
use Rattle.std.proofs.lemmas.List.{take_more, take-append-drop, get_or_default}
use Rattle.std.proofs.lemmas.List.Elements.{Contains-append_left}
use Rattle.order_clauses.specs.declared.order_pair.OrderPair.{OrderPair}
use Rattle.order_clauses.specs.declared.reason_list.ClauseOutcome.TheVariants.{Made}
use Rattle.order_clauses.specs.ClauseOf.{IsClauseOf}
use Rattle.order_clauses.specs.Turned.{turned}
use Rattle.order_clauses.specs.Unmade.{AreAlwaysTrue, IsAlwaysTrue}
use Rattle.order_clauses.proofs.VariableLemmas.{extended_over}
use Rattle.order_clauses.proofs.reason_list.put_orders.Goals as goal

pub loop-order-preserved : goal.loop-order-preserved
loop-order-preserved c =
    let new = c.put_order.new.variables in
    let made : c.in_ok-outcome.outcome ≡ Made = search rules in (
      extended_over c.args.variables.now c.loop-order.variables new c.loop-order.invariant.0 c.in_ok-outcome.ensures.extended,
      λ empty. subst (λ (l : List OrderPair). IsClauseOf new l c.put_order.new.literals.items) (sym (take_more c.args.orders.now c.loop-order.order-index _ c.loop-order-test.true)) (c.in_ok-outcome.ensures.says made (take c.loop-order.order-index c.args.orders.now) (c.loop-order.invariant.1 empty)),
    )

-- what always stands with one of the first orders always stands with one of all
always_among : (orders : List OrderPair) (i : ℕ) (order nothing : OrderPair) → i < length orders → order ≡ get_or orders i nothing → IsAlwaysTrue (take i orders) order → AreAlwaysTrue orders
always_among orders i order nothing low e h = (order, (i, low, get_or_default orders i order nothing low ∙ sym e), among h)
  where
    among : IsAlwaysTrue (take i orders) order → IsAlwaysTrue orders order
    among (inl same) = inl same
    among (inr there) = inr (subst (λ l. Contains l (turned order)) (take-append-drop i orders) (Contains-append_left (take i orders) (drop i orders) (turned order) there))

pub returns-then-ne-clause-always : goal.returns-then-ne-clause-always
returns-then-ne-clause-always c always empty =
    always_among c.args.orders.now c.loop-order.order-index _ _ c.loop-order-test.true refl (c.in_ok-outcome.ensures.always always (take c.loop-order.order-index c.args.orders.now) (c.loop-order.invariant.1 empty))
