use Rattle.std.proofs.Common.{◌≡◌, true}
use Rattle.reason_counting.specs.Left.{IsLeft}
use Rattle.reason_counting.specs.DistinctSources.{sources_kept}
use Rattle.reason_counting.specs.CountedMembers.{IsOfStretches}
use Rattle.reason_counting.specs.CountingRefused.{IsLeftInitial, IsLeftOperation}
use Rattle.reason_counting.proofs.EnoughLemmas.{left_initial, left_operation}
use Rattle.reason_counting.proofs.KeptLemmas.{kept_weaker}
use Rattle.reason_counting.proofs.MemberLemmas.{bars_all_but}
use Rattle.reason_counting.proofs.counted_members.bar_member.Goals as goal

pub returns-clause-bars : goal.returns-clause-bars
returns-clause-bars c =
    let t = c.args.trace.now in
    (c.in_ok-left.ensures.bars.0, λ clause all. bars_all_but t clause (IsLeft t c.args.writers.now.by_value c.in_ok-left.left) (sources_kept t c.keep_left.new.kept) (c.in_ok-keep_left.ensures.there t) c.args.member.now (c.in_ok-left.ensures.bars.1 clause all))

pub returns-clause-keeps : goal.returns-clause-keeps
returns-clause-keeps c =
    let t = c.args.trace.now in
    let member = c.args.member.now in
    let left = c.in_ok-left.left in
    let writers = c.args.writers.now.by_value in
    kept_weaker c.args.kept.now c.keep_left.new.kept (IsOfStretches writers left.location.now left.stretches.items) (IsLeftOperation t member) (λ a. (left.is_initial_left ≡ true) × (a ≡ left.location.now)) (IsLeftInitial t member)
    (left_operation t c.recall_invariant.ensures writers c.requires.by_value c.requires.value_kind member left c.in_ok-left.ensures.left) (left_initial t member left c.in_ok-left.ensures.left) c.in_ok-keep_left.ensures.only
