use Rattle.std.proofs.Common.{◌≡◌, ◌≤◌, ℕ, List, subst}
use Rattle.std.specs.List.{All, Contains}
use Rattle.std.proofs.lemmas.List.Elements.{All-contains}
use Rattle.reason_clauses.specs.Numbered.{at_number}
use Rattle.reason_counting.specs.CountedMembers.{IsOfPlaces}
use Rattle.reason_counting.proofs.KeptLemmas.{kept_weaker}
use Rattle.reason_counting.proofs.counted_members.keep_run.Goals as goal

pub returns-clause-there : goal.returns-clause-there
returns-clause-there c same k there least most =
    All-contains (λ (j : ℕ). c.args.stretch.first ≤ j → j ≤ c.args.stretch.last → Contains c.keep_places.new.kept.operations.items (at_number c.args.run.now.process j)) c.args.run.now.places k
    (subst (λ (l : List ℕ). All (λ (j : ℕ). c.args.stretch.first ≤ j → j ≤ c.args.stretch.last → Contains c.keep_places.new.kept.operations.items (at_number c.args.run.now.process j)) l) c.as_slice.ensures.places c.in_ok-keep_places.ensures.there) there least most

pub returns-clause-only : goal.returns-clause-only
returns-clause-only c =
    let run = c.args.run.now in
    kept_weaker c.args.kept.now c.keep_places.new.kept (IsOfPlaces c.args.stretch run.process c.as_slice.result.now) (λ n. (run.process ≡ c.args.stretch.process) × IsOfPlaces c.args.stretch run.process run.places n) (λ a. ⊥) (λ a. ⊥)
    (λ n h. (c.if-run-stretch.false, subst (λ (l : List ℕ). IsOfPlaces c.args.stretch run.process l n) c.as_slice.ensures.places h)) (λ a h. h) c.in_ok-keep_places.ensures.only
