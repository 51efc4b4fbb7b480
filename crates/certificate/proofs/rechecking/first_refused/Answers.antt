use Rattle.std.proofs.Common.{◌≡◌, ℤ, List, Some, length, refl, subst, arith}
use Rattle.std.specs.List.{slice_get}
use Rattle.std.proofs.lemmas.Option.{slice_get_read}
use Rattle.lrat_check.specs.Checked.{IsAccepted, IsRefused}
use Rattle.certificate.proofs.RecheckLemmas.{proved_on, refused_found}
use Rattle.certificate.proofs.rechecking.first_refused.Goals as goal

pub loop-leaf-init : goal.loop-leaf-init
loop-leaf-init g c = (λ leaf cube below there. absurd (omega (arith, below)), c.new-counts.ensures (g.L.ClauseList.formula c.args.clauses.now).clauses)

pub returns-then-not-branch : goal.returns-then-not-branch
returns-then-not-branch g c =
    let clauses = (g.L.ClauseList.formula c.args.clauses.now).clauses in
    let cubes = c.args.cubes.now in
    let cube = c.index-cubes-leaf.result in
    let there : slice_get cubes c.loop-leaf.leaf ≡ Some cube = slice_get_read cubes (length cubes) c.loop-leaf.leaf cube refl c.loop-leaf-test.true c.index-cubes-leaf.is in
    let found = c.in_ok-is_accepted.ensures.refused c.if-not-branch.true in
    refused_found clauses cubes c.args.sections.now (length cubes) c.loop-leaf.leaf cube c.in-Some.section.now found.0 found.1 c.requires.right there c.in-Some.ensures
    (subst (λ (x : List ℤ). IsRefused clauses x c.in-Some.section.now.derivation found.0 found.1) c.as_slice.ensures.literals found.2) c.loop-leaf.invariant.0

pub loop-leaf-preserved : goal.loop-leaf-preserved
loop-leaf-preserved g c =
    let clauses = (g.L.ClauseList.formula c.args.clauses.now).clauses in
    let cubes = c.args.cubes.now in
    let cube = c.index-cubes-leaf.result in
    let there : slice_get cubes c.loop-leaf.leaf ≡ Some cube = slice_get_read cubes (length cubes) c.loop-leaf.leaf cube refl c.loop-leaf-test.true c.index-cubes-leaf.is in (
      proved_on clauses cubes c.args.sections.now (length cubes) c.loop-leaf.leaf cube c.in-Some.section.now c.requires.right there c.in-Some.ensures
          (subst (λ (x : List ℤ). IsAccepted clauses x c.in-Some.section.now.derivation) c.as_slice.ensures.literals (c.in_ok-is_accepted.ensures.accepted c.if-not-branch.false)) c.loop-leaf.invariant.0,
      c.is_accepted.ensures.formula,
    )
