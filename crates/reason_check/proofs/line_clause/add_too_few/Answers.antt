use Rattle.std.proofs.Common.{refl}
use Rattle.reason_clauses.proofs.RefusedLemmas.{refusal_on}
use Rattle.reason_check.specs.RefusedByTrace.{IsEnough}
use Rattle.reason_check.proofs.OutcomeLemmas.{never_refused, enough_refused}
use Rattle.reason_check.proofs.LineLemmas.{next_if_empty}
use Rattle.reason_check.proofs.line_clause.add_too_few.Goals as goal

pub returns-clause-made : goal.returns-clause-made
returns-clause-made c =
    next_if_empty c.args.trace.now c.args.location.now c.args.value c.args.list.now c.add_orders.new.list _ refl c.in_ok-too_few_sources.ensures.few c.add_orders.result c.add_orders.ensures.appended c.add_orders.ensures.outcome

pub returns-clause-refused : goal.returns-clause-refused
returns-clause-refused c = never_refused (IsEnough c.args.trace.now c.args.location.now c.args.value) c.add_orders.result (c.add_orders.ensures.none refl)

pub returns-in_err-too_few_sources-clause-refused : goal.returns-in_err-too_few_sources-clause-refused
returns-in_err-too_few_sources-clause-refused c =
    let Is = IsEnough c.args.trace.now c.args.location.now c.args.value in
    refusal_on Is Is c.from_residual.result c.in_err-too_few_sources.field-0.0 c.from_residual.ensures.1 (λ cause h. h)
    (enough_refused c.args.trace.now c.args.location.now c.args.value c.in_err-too_few_sources.field-0.0 c.in_err-too_few_sources.ensures.enough)
