use Rattle.std.proofs.Common.{◌≡◌, ◌⊎◌, ◌≤◌, ◌+◌, length, sym, arith, inl, inr}
use Rattle.reason_clauses.specs.declared.cause.ReasonCause.TheVariants.{EnoughSources}
use Rattle.reason_clauses.proofs.AddedLemmas.{adds_over}
use Rattle.reason_clauses.proofs.RefusedLemmas.{refusal_on}
use Rattle.reason_counting.specs.CountingRefused.{AreEnoughLeft, IsCountingOrder, IsInitialToSome, IsLeftInitial, IsLeftOperation, IsLeftToSome, IsMemberOrder, IsMemberRefused, IsSomeMemberRefused}
use Rattle.reason_counting.specs.DistinctSources.{AreNone}
use Rattle.reason_counting.proofs.EnoughLemmas.{enough_left}
use Rattle.reason_counting.proofs.KeptLemmas.{kept_none, kept_over}
use Rattle.reason_counting.proofs.MemberLemmas.{first_barred_next}
use Rattle.reason_counting.proofs.counted_members.bar_members.Goals as goal

pub loop-k-init : goal.loop-k-init
loop-k-init c = (λ j d low. absurd (omega (arith, low)), λ o d. inl d, kept_none c.args.kept.now (IsLeftToSome c.args.trace.now c.args.members.now) (IsInitialToSome c.args.trace.now c.args.members.now))

pub loop-k-preserved : goal.loop-k-preserved
loop-k-preserved c = (
  first_barred_next c.args.trace.now c.loop-k.orders.items c.bar_member.new.orders.items c.loop-k.kept c.bar_member.new.kept c.args.members.now c.loop-k.k c.index-members-k.result c.in_ok-bar_member.ensures.grows c.in_ok-bar_member.ensures.more c.loop-k.invariant.0 c.loop-k-test.true (sym c.index-members-k.is) c.in_ok-bar_member.ensures.bars,
  adds_over c.args.orders.now.items c.loop-k.orders.items c.bar_member.new.orders.items (IsMemberOrder c.args.trace.now c.index-members-k.result) (IsCountingOrder c.args.trace.now c.args.members.now)
      (λ o h. (c.index-members-k.result, (c.loop-k.k, c.loop-k-test.true, sym c.index-members-k.is), h)) c.loop-k.invariant.1 c.in_ok-bar_member.ensures.only,
  kept_over c.args.kept.now c.loop-k.kept c.bar_member.new.kept (IsLeftOperation c.args.trace.now c.index-members-k.result) (IsLeftToSome c.args.trace.now c.args.members.now) (IsLeftInitial c.args.trace.now c.index-members-k.result) (IsInitialToSome c.args.trace.now c.args.members.now)
      (λ n h. (c.index-members-k.result, (c.loop-k.k, c.loop-k-test.true, sym c.index-members-k.is), h)) (λ a h. (c.index-members-k.result, (c.loop-k.k, c.loop-k-test.true, sym c.index-members-k.is), h)) c.loop-k.invariant.2 c.in_ok-bar_member.ensures.keeps,
)

pub returns-clause-barred : goal.returns-clause-barred
returns-clause-barred c j d low = c.loop-k.invariant.0 j d (let past = c.loop-k-test.false in omega (arith, low, past))

pub returns-clause-only : goal.returns-clause-only
returns-clause-only c = c.loop-k.invariant.1

pub returns-in_err-bar_member-clause-refused : goal.returns-in_err-bar_member-clause-refused
returns-in_err-bar_member-clause-refused c =
    let t = c.args.trace.now in
    refusal_on (IsMemberRefused t c.index-members-k.result) (λ cause. IsSomeMemberRefused t c.args.members.now cause ⊎ ((cause ≡ EnoughSources) × (AreNone c.args.kept.now → AreEnoughLeft t c.args.members.now))) c.from_residual.result c.in_err-bar_member.field-0.0 c.from_residual.ensures.1
    (λ cause h. inl (c.index-members-k.result, (c.loop-k.k, c.loop-k-test.true, sym c.index-members-k.is), h)) c.in_err-bar_member.ensures.refused

pub returns-in_err-want_fewer-clause-refused : goal.returns-in_err-want_fewer-clause-refused
returns-in_err-want_fewer-clause-refused c =
    let t = c.args.trace.now in
    refusal_on (λ cause. (cause ≡ EnoughSources) × (length c.args.members.now ≤ length c.bar_member.new.kept.operations.items + length c.bar_member.new.kept.locations.items)) (λ cause. IsSomeMemberRefused t c.args.members.now cause ⊎ ((cause ≡ EnoughSources) × (AreNone c.args.kept.now → AreEnoughLeft t c.args.members.now))) c.from_residual-in_err-want_fewer.result c.in_err-want_fewer.field-0.0 c.from_residual-in_err-want_fewer.ensures.1
    (λ cause h. inr (
      h.0,
      λ none. enough_left t c.args.members.now c.args.kept.now c.bar_member.new.kept none
          (kept_over c.args.kept.now c.loop-k.kept c.bar_member.new.kept (IsLeftOperation c.args.trace.now c.index-members-k.result) (IsLeftToSome c.args.trace.now c.args.members.now) (IsLeftInitial c.args.trace.now c.index-members-k.result) (IsInitialToSome c.args.trace.now c.args.members.now)
          (λ n h. (c.index-members-k.result, (c.loop-k.k, c.loop-k-test.true, sym c.index-members-k.is), h)) (λ a h. (c.index-members-k.result, (c.loop-k.k, c.loop-k-test.true, sym c.index-members-k.is), h)) c.loop-k.invariant.2 c.in_ok-bar_member.ensures.keeps) h.1,
    )) c.in_err-want_fewer.ensures.refused

pub returns-clause-keeps : goal.returns-clause-keeps
returns-clause-keeps c = c.loop-k.invariant.2
