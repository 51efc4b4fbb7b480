use Rattle.std.proofs.Common.{◌≡◌, ◌⊎◌, ◌≤◌, ◌+◌, length, inl, inr}
use Rattle.order_clauses.specs.Numbered.{named_orders}
use Rattle.reason_clauses.specs.declared.cause.ReasonCause.TheVariants.{EnoughSources}
use Rattle.reason_clauses.proofs.RefusedLemmas.{refusal_on}
use Rattle.reason_counting.specs.CountedMembers.{needs_listed}
use Rattle.reason_counting.specs.CountingRefused.{AreEnoughLeft, IsCountingRefused, IsSomeMemberRefused, IsTwiceRefused}
use Rattle.reason_counting.specs.DistinctSources.{AreNone, sources_kept}
use Rattle.reason_counting.proofs.EnoughLemmas.{enough_by, enough_left}
use Rattle.reason_counting.proofs.MemberLemmas.{counting_by}
use Rattle.reason_counting.proofs.counted_members.counting_clause.Goals as goal

pub returns-clause-made : goal.returns-clause-made
returns-clause-made c =
    let t = c.args.trace.now in
    let kept = c.bar_members.new.kept in
    (sources_kept t kept, counting_by t c.recall_invariant.ensures c.bar_members.new.orders.items kept c.args.members.now c.in_ok-want_distinct.ensures.distinct c.in_ok-bar_members.ensures.barred c.in_ok-want_fewer.ensures.fewer)

pub returns-clause-holds : goal.returns-clause-holds
returns-clause-holds c =
    let t = c.args.trace.now in
    let kept = c.bar_members.new.kept in
    let clause = named_orders t c.bar_members.new.orders.items in
    c.too_few_sources.ensures t clause (needs_listed t c.args.members.now) (sources_kept t kept)
    (counting_by t c.recall_invariant.ensures c.bar_members.new.orders.items kept c.args.members.now c.in_ok-want_distinct.ensures.distinct c.in_ok-bar_members.ensures.barred c.in_ok-want_fewer.ensures.fewer clause (λ p d. d))

pub returns-clause-only : goal.returns-clause-only
returns-clause-only c = c.in_ok-bar_members.ensures.only

pub returns-in_err-want_distinct-clause-refused : goal.returns-in_err-want_distinct-clause-refused
returns-in_err-want_distinct-clause-refused c =
    refusal_on (IsTwiceRefused c.args.members.now) (IsCountingRefused c.args.trace.now c.args.members.now) c.from_residual.result c.in_err-want_distinct.field-0.0 c.from_residual.ensures.1 (λ cause h. inl h) c.in_err-want_distinct.ensures.refused

pub returns-in_err-bar_members-clause-refused : goal.returns-in_err-bar_members-clause-refused
returns-in_err-bar_members-clause-refused c =
    refusal_on (λ cause. IsSomeMemberRefused c.args.trace.now c.args.members.now cause ⊎ ((cause ≡ EnoughSources) × (AreNone c.new-kept.result → AreEnoughLeft c.args.trace.now c.args.members.now))) (IsCountingRefused c.args.trace.now c.args.members.now) c.from_residual-in_err-bar_members.result c.in_err-bar_members.field-0.0 c.from_residual-in_err-bar_members.ensures.1
    (λ cause h. inr (enough_by c.args.trace.now c.args.members.now cause (AreNone c.new-kept.result) (c.new-kept.ensures.operations, c.new-kept.ensures.locations) h)) c.in_err-bar_members.ensures.refused

pub returns-in_err-want_fewer-clause-refused : goal.returns-in_err-want_fewer-clause-refused
returns-in_err-want_fewer-clause-refused c =
    refusal_on (λ cause. (cause ≡ EnoughSources) × (length c.args.members.now ≤ length c.bar_members.new.kept.operations.items + length c.bar_members.new.kept.locations.items)) (IsCountingRefused c.args.trace.now c.args.members.now) c.from_residual-in_err-want_fewer.result c.in_err-want_fewer.field-0.0 c.from_residual-in_err-want_fewer.ensures.1
    (λ cause h. inr (inr (h.0, enough_left c.args.trace.now c.args.members.now c.new-kept.result c.bar_members.new.kept (c.new-kept.ensures.operations, c.new-kept.ensures.locations) c.in_ok-bar_members.ensures.keeps h.1))) c.in_err-want_fewer.ensures.refused
