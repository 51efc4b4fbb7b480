use Rattle.std.proofs.Common.{List, ℕ, refl, subst}
use Rattle.std.specs.Borrow.{Bor}
use Rattle.reason_counting.specs.DistinctSources.{HasLocation}
use Rattle.reason_counting.proofs.KeptLemmas.{kept_placed}
use Rattle.reason_counting.proofs.distinct_sources.DistinctSources.keep_initial.Goals as goal

pub returns-clause-only : goal.returns-clause-only
returns-clause-only c =
    let kept = c.args.self.now in
    kept_placed kept (record { places = kept.places; operations = kept.operations; locations = c.push.new.self }) c.args.location refl c.in_ok-push.ensures.items (λ m. refl)
    (subst (λ (l : List (Bor (List ℕ))). HasLocation l c.args.location.now → ⊥) c.as_slice.ensures.value (c.has_location.ensures.other c.if-has_location.false))
