use Rattle.std.proofs.Common.{List, ℤ, inr, subst}
use Rattle.std.specs.List.{Contains}
use Rattle.order_clauses.specs.Literals.{SaysOrder}
use Rattle.order_clauses.proofs.ClauseLemmas.{clause_next, opposite_there}
use Rattle.order_clauses.proofs.reason_list.put_order.Goals as goal

pub returns-clause-says : goal.returns-clause-says
returns-clause-says c made orders given =
    let said : SaysOrder c.literal.new.self c.in-Some.literal c.args.order = rw c.in-Some.is at c.in_ok-literal.ensures.says in
    clause_next c.args.variables.now c.literal.new.self orders c.args.literals.now.items c.put.new.literals.items c.args.order c.in-Some.literal c.in_ok-literal.ensures.extended said c.in_ok-put.ensures given

pub returns-then-has-clause-always : goal.returns-then-has-clause-always
returns-then-has-clause-always c always orders given =
    let said : SaysOrder c.literal.new.self c.in-Some.literal c.args.order = rw c.in-Some.is at c.in_ok-literal.ensures.says in
    let there = subst (λ z. Contains c.args.literals.now.items z) c.negated.ensures.number (subst (λ (l : List ℤ). Contains l c.negated.result) c.as_slice.ensures.value (c.has.ensures c.if-has.true)) in
    inr (opposite_there c.args.variables.now c.literal.new.self orders c.args.literals.now.items c.args.order c.in-Some.literal c.in_ok-literal.ensures.extended said given there)
