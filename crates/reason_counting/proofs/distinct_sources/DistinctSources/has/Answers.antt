use Rattle.std.proofs.Common.{◌≡◌, ◌<◌, List, get_or, length, subst, sym, ◌∙◌, rules}
use Rattle.std.specs.Prelude.{Some, None}
use Rattle.writer_table.specs.declared.operation_place.OperationPlace.{OperationPlace}
use Rattle.reason_counting.specs.DistinctSources.{place_kept}
use Rattle.reason_counting.proofs.KeptLemmas.{other_at, place_of_kept}
use Rattle.reason_counting.proofs.distinct_sources.DistinctSources.has.Goals as goal

pub returns-in-Some-clause-other : goal.returns-in-Some-clause-other
returns-in-Some-clause-other c e =
    let kept = c.args.self.now in
    let place = c.in-Some.place.now in
    let found : place_kept kept c.args.n ≡ Some place = search rules in
    other_at kept c.args.n place found (subst (λ (l : List OperationPlace). (d : OperationPlace) → place < length l → get_or l place d ≡ c.args.n → ⊥) c.as_slice.ensures.value (c.is_at.ensures.other e))

pub returns-in-None-clause-other : goal.returns-in-None-clause-other
returns-in-None-clause-other c e apart there =
    let missing : place_kept c.args.self.now c.args.n ≡ None = search rules in
    let clash : None ≡ Some there.0 = sym missing ∙ place_of_kept c.args.self.now c.args.n apart there in
    cc
