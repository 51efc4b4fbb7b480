use Rattle.std.proofs.Common.{◌≡◌, ◌<◌, true, false, length, get_or, ap, sym, ◌∙◌, subst, arith}
use Rattle.std.specs.List.{Contains}
use Rattle.trace_semantics.specs.declared.operation.OpName.{OpName}
use Rattle.order_clauses.specs.Numbered.{named, named_order}
use Rattle.reason_clauses.proofs.PairLemmas.{pair_at}
use Rattle.reason_clauses.proofs.pair.is_pair_at.Goals as goal

pub returns-clause-only : goal.returns-clause-only
returns-clause-only c right =
    let pair = c.index-pairs-place.result in
    let low : c.args.place < length c.before-pairs.result.now = (let past = c.if-place-pairs.false in omega (arith, past)) in
    let first = c.is_named.ensures.only c.if-not-is_named.false in
    let second = c.is_named-2.ensures.only right in
    subst (λ (p : OpName × OpName). Contains c.args.trace.now.before p) (λ i. (sym first i, sym second i)) (subst (λ l. Contains l pair) c.before-pairs.ensures (c.args.place, low, sym c.index-pairs-place.is))

pub returns-clause-found : goal.returns-clause-found
returns-clause-found c low here first second =
    c.is_named-2.ensures.found second.0 (sym (ap (λ (p : OpName × OpName). p.1) (pair_at c.args.trace.now.before c.args.place (named_order c.args.trace.now c.args.order) c.index-pairs-place.result low here (ap (λ l. get_or l c.args.place c.index-pairs-place.result) (sym c.before-pairs.ensures) ∙ sym c.index-pairs-place.is))))

pub returns-then-not-is_named-clause-found : goal.returns-then-not-is_named-clause-found
returns-then-not-is_named-clause-found c low here first second =
    sym c.if-not-is_named.true ∙ c.is_named.ensures.found first.0 (sym (ap (λ (p : OpName × OpName). p.0) (pair_at c.args.trace.now.before c.args.place (named_order c.args.trace.now c.args.order) c.index-pairs-place.result low here (ap (λ l. get_or l c.args.place c.index-pairs-place.result) (sym c.before-pairs.ensures) ∙ sym c.index-pairs-place.is))))
