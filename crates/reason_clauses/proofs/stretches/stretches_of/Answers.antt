use Rattle.std.proofs.Common.{◌≤◌, ℕ, List, sym, subst}
use Rattle.std.specs.List.{All, Contains}
use Rattle.std.specs.List.Sorted.{IsNonDecreasing}
use Rattle.reason_clauses.specs.StretchOrders.{AreCut}
use Rattle.reason_clauses.proofs.StretchLemmas.{stretches_cut}
use Rattle.reason_clauses.proofs.stretches.stretches_of.Goals as goal

pub returns-clause-taken : goal.returns-clause-taken
returns-clause-taken c least p h =
    c.cut.ensures.taken (subst (λ l. All (λ q. 1 ≤ q) l) (sym c.as_slice.ensures.places) least) p (subst (λ l. Contains l p) (sym c.as_slice.ensures.places) h)

pub returns-clause-only : goal.returns-clause-only
returns-clause-only c =
    let places = c.args.places.now in
    stretches_cut places (subst (λ (l : List ℕ). IsNonDecreasing l) c.as_slice.ensures.places c.as_slice.ensures.rising) c.args.bound c.args.limit c.count_to-hidden.result c.count_before-before.result c.cut.result
    c.count_to-hidden.ensures.within c.count_before-before.ensures.within c.count_to-hidden.ensures.first c.count_to-hidden.ensures.others c.count_before-before.ensures.first c.count_before-before.ensures.others
    (subst (λ (l : List ℕ). AreCut l c.count_to-hidden.result c.count_before-before.result c.cut.result) c.as_slice.ensures.places c.cut.ensures.cut)
