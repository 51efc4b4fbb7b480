use Rattle.std.proofs.Common.{◌≡◌, ◌∙◌, ℕ, List, length, true, sym, subst}
use Rattle.std.proofs.lemmas.Option.{MatchOption-at_none}
use Rattle.cube_tree.specs.CubeTree.{leaves}
use Rattle.certificate.specs.Rechecked.{AreRight, AreProvedBelow, IsRechecked, are_sections_of_clauses}
use Rattle.certificate.specs.declared.certificate.Section.{Section}
use Rattle.certificate.proofs.RecheckLemmas.{rechecked}
use Rattle.certificate.proofs.RecheckLawLemmas.{no_model_anywhere}
use Rattle.certificate.proofs.rechecking.recheck.Goals as goal

pub returns-clause-accepted : goal.returns-clause-accepted
returns-clause-accepted g c =
    let clauses = (g.L.ClauseList.formula c.args.clauses.now).clauses in
    let certificate = c.args.certificate.now in
    let cubes = c.as_slice-2.result.now in
    let right : AreRight (leaves certificate.tree) certificate.sections =
    subst (λ (n : ℕ). AreRight n certificate.sections) c.leaves-count.ensures (subst (λ (xs : List Section). AreRight c.leaves-count.result xs) c.as_slice-sections.ensures c.in_default.ensures) in
    let proved : AreProvedBelow clauses cubes certificate.sections (length cubes) =
    subst (λ (xs : List Section). AreProvedBelow clauses cubes xs (length cubes)) c.as_slice-sections.ensures (MatchOption-at_none _ _ c.in-None.is c.in_ok-leaf.ensures) in
    subst (λ (n : ℕ). IsRechecked clauses certificate n) (sym c.leaves-count.ensures) (rechecked clauses certificate cubes (c.as_slice-2.ensures.value ∙ c.in_ok-cubes.ensures) right proved)

pub returns-clause-sound : goal.returns-clause-sound
returns-clause-sound g c =
    no_model_anywhere (g.L.ClauseList.formula c.args.clauses.now) c.args.certificate.now c.leaves-count.result c.recall_invariant.ensures.formula c.recall_cover.ensures.tree.variables
    (subst (λ (xs : List Section). are_sections_of_clauses xs ≡ true) c.as_slice.ensures c.recall_clauses.ensures) (returns-clause-accepted g c)
