use Rattle.std.proofs.Common.{List, subst, take, take_all}
use Rattle.std.specs.List.{All}
use Rattle.reason_clauses.proofs.SourceLemmas.{all_more}
use Rattle.reason_counting.specs.declared.left_sources.LeftStretch.{LeftStretch}
use Rattle.reason_counting.specs.CountedMembers.{IsOfStretches, IsStretchKept}
use Rattle.reason_counting.proofs.KeptLemmas.{kept_none, stretches_next}
use Rattle.reason_counting.proofs.MemberLemmas.{all_none, has_same, has_over, stretches_kept}
use Rattle.reason_counting.proofs.counted_members.keep_stretches.Goals as goal

pub loop-stretch-init : goal.loop-stretch-init
loop-stretch-init c = (has_same c.args.kept.now, all_none (IsStretchKept c.args.writers.now c.args.location.now c.args.kept.now), kept_none c.args.kept.now (IsOfStretches c.args.writers.now c.args.location.now c.args.stretches.now) (λ a. ⊥))

pub loop-stretch-preserved : goal.loop-stretch-preserved
loop-stretch-preserved c = (
  has_over c.args.kept.now c.loop-stretch.kept c.keep_stretch.new.kept c.loop-stretch.invariant.0 c.in_ok-keep_stretch.ensures.more,
  all_more (λ (x : LeftStretch). IsStretchKept c.args.writers.now c.args.location.now c.keep_stretch.new.kept x) c.args.stretches.now c.loop-stretch.stretch-index _ c.loop-stretch-test.true
      (stretches_kept c.args.writers.now c.args.location.now c.loop-stretch.kept c.keep_stretch.new.kept (take c.loop-stretch.stretch-index c.args.stretches.now) c.in_ok-keep_stretch.ensures.more c.loop-stretch.invariant.1)
      c.in_ok-keep_stretch.ensures.there,
  stretches_next c.args.writers.now c.args.location.now c.args.stretches.now c.loop-stretch.stretch-index _ c.args.kept.now c.loop-stretch.kept c.keep_stretch.new.kept c.loop-stretch-test.true c.loop-stretch.invariant.2 c.in_ok-keep_stretch.ensures.only,
)

pub returns-clause-more : goal.returns-clause-more
returns-clause-more c = c.loop-stretch.invariant.0

pub returns-clause-there : goal.returns-clause-there
returns-clause-there c = subst (λ (l : List LeftStretch). All (IsStretchKept c.args.writers.now c.args.location.now c.loop-stretch.kept) l) (take_all c.loop-stretch.stretch-index c.args.stretches.now c.loop-stretch-test.false) c.loop-stretch.invariant.1

pub returns-clause-only : goal.returns-clause-only
returns-clause-only c = c.loop-stretch.invariant.2
