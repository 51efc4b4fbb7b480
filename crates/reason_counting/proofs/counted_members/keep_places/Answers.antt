use Rattle.std.proofs.Common.{◌≤◌, ℕ, List, subst, take, take_all}
use Rattle.std.specs.List.{All, Contains}
use Rattle.reason_clauses.specs.Numbered.{at_number}
use Rattle.reason_clauses.proofs.SourceLemmas.{all_more}
use Rattle.reason_counting.specs.CountedMembers.{IsOfPlaces}
use Rattle.reason_counting.proofs.KeptLemmas.{kept_none, places_next}
use Rattle.reason_counting.proofs.MemberLemmas.{all_none, has_same, has_over, all_kept}
use Rattle.reason_counting.proofs.counted_members.keep_places.Goals as goal

pub loop-place-init : goal.loop-place-init
loop-place-init c = (has_same c.args.kept.now, all_none (λ (k : ℕ). c.args.stretch.first ≤ k → k ≤ c.args.stretch.last → Contains c.args.kept.now.operations.items (at_number c.args.process k)), kept_none c.args.kept.now (IsOfPlaces c.args.stretch c.args.process c.args.places.now) (λ a. ⊥))

pub loop-place-preserved : goal.loop-place-preserved
loop-place-preserved c = (
  has_over c.args.kept.now c.loop-place.kept c.keep_place.new.kept c.loop-place.invariant.0 c.in_ok-keep_place.ensures.more,
  all_more (λ (k : ℕ). c.args.stretch.first ≤ k → k ≤ c.args.stretch.last → Contains c.keep_place.new.kept.operations.items (at_number c.args.process k)) c.args.places.now c.loop-place.place-index _ c.loop-place-test.true
      (all_kept c.args.process c.args.stretch c.loop-place.kept c.keep_place.new.kept (take c.loop-place.place-index c.args.places.now) c.in_ok-keep_place.ensures.more c.loop-place.invariant.1) c.in_ok-keep_place.ensures.there,
  places_next c.args.stretch c.args.process c.args.places.now c.loop-place.place-index _ c.args.kept.now c.loop-place.kept c.keep_place.new.kept c.loop-place-test.true c.loop-place.invariant.2 c.in_ok-keep_place.ensures.only,
)

pub returns-clause-more : goal.returns-clause-more
returns-clause-more c = c.loop-place.invariant.0

pub returns-clause-there : goal.returns-clause-there
returns-clause-there c =
    subst (λ (l : List ℕ). All (λ (k : ℕ). c.args.stretch.first ≤ k → k ≤ c.args.stretch.last → Contains c.loop-place.kept.operations.items (at_number c.args.process k)) l) (take_all c.loop-place.place-index c.args.places.now c.loop-place-test.false) c.loop-place.invariant.1

pub returns-clause-only : goal.returns-clause-only
returns-clause-only c = c.loop-place.invariant.2
