use Rattle.std.proofs.Common.{◌≡◌, true, List, subst}
use Rattle.std.specs.List.{All}
use Rattle.reason_counting.specs.declared.left_sources.LeftStretch.{LeftStretch}
use Rattle.reason_counting.specs.CountedMembers.{IsOfStretches, IsStretchKept}
use Rattle.reason_counting.proofs.KeptLemmas.{kept_over, kept_weaker}
use Rattle.reason_counting.proofs.MemberLemmas.{left_kept, has_over, stretches_kept}
use Rattle.reason_counting.proofs.counted_members.keep_left.Goals as goal

pub returns-clause-more : goal.returns-clause-more
returns-clause-more c = has_over c.args.kept.now c.keep_stretches.new.kept c.keep_start.new.kept c.in_ok-keep_stretches.ensures.more c.in_ok-keep_start.ensures.more

pub returns-clause-there : goal.returns-clause-there
returns-clause-there c t s is =
    let left = c.args.left.now in
    let writers = c.args.writers.now in
    let kept = c.keep_start.new.kept in
    left_kept t writers kept left
    (subst (λ (l : List LeftStretch). All (IsStretchKept writers left.location.now kept) l) c.as_slice.ensures.value
    (stretches_kept writers left.location.now c.keep_stretches.new.kept kept c.as_slice.result.now c.in_ok-keep_start.ensures.more c.in_ok-keep_stretches.ensures.there))
    c.in_ok-keep_start.ensures.there s is

pub returns-clause-only : goal.returns-clause-only
returns-clause-only c =
    let left = c.args.left.now in
    let writers = c.args.writers.now in
    kept_over c.args.kept.now c.keep_stretches.new.kept c.keep_start.new.kept (λ n. ⊥) (IsOfStretches writers left.location.now left.stretches.items) (λ a. (left.is_initial_left ≡ true) × (a ≡ left.location.now)) (λ a. (left.is_initial_left ≡ true) × (a ≡ left.location.now)) (λ n h. absurd h) (λ a h. h)
    (kept_weaker c.args.kept.now c.keep_stretches.new.kept (IsOfStretches writers left.location.now c.as_slice.result.now) (IsOfStretches writers left.location.now left.stretches.items) (λ a. ⊥) (λ a. (left.is_initial_left ≡ true) × (a ≡ left.location.now))
    (λ n h. subst (λ (l : List LeftStretch). IsOfStretches writers left.location.now l n) c.as_slice.ensures.value h) (λ a h. absurd h) c.in_ok-keep_stretches.ensures.only)
    c.in_ok-keep_start.ensures.only
