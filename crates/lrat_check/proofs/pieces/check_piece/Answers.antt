use Rattle.std.proofs.Common.{◌≡◌, ◌<◌, ◌+◌, List, length, ap, sym, ◌∙◌, subst, arith}
use Rattle.lrat_check.specs.Active.{at_start}
use Rattle.lrat_check.specs.ClauseAt.{clause_at}
use Rattle.lrat_check.specs.Pieces.{IsAcceptedFrom}
use Rattle.lrat_check.specs.declared.derivation.Step.{Step}
use Rattle.lrat_check.proofs.PieceLemmas.{passed_on, accepted_on, accepted_here}
use Rattle.lrat_check.proofs.pieces.check_piece.Goals as goal

pub loop-i-init : goal.loop-i-init
loop-i-init g c =
    let clauses = (g.F.ClauseList.formula c.args.formula.now).clauses in
    (c.in_ok-active.ensures.active, λ k. k, c.in_ok-active.ensures.counted, c.new-counts.ensures clauses)

pub loop-i-preserved : goal.loop-i-preserved
loop-i-preserved g c =
    let clauses = (g.F.ClauseList.formula c.args.formula.now).clauses in
    let cube = c.args.cube.now in
    let steps = c.steps-steps.result.now in
    let step = c.index-steps-i.result in
    let i = c.loop-i.i in
    let same : steps ≡ c.args.derivation.now = c.steps-steps.ensures.steps in
    let old = clause_at clauses c.loop-i.active.clauses in
    let below : i < length steps = (let l = ap length same in omega (arith, l, c.loop-i-test.true, c.requires.1)) in
    let right = c.in_ok-take_step.ensures.step c.loop-i.invariant.3 c.loop-i.invariant.2 in (
      passed_on (at_start clauses cube) old (clause_at clauses c.take_step.new.active.clauses) steps i step below c.index-steps-i.is c.loop-i.invariant.0 right.2,
      (λ k. c.loop-i.invariant.1
          (subst (λ (s : List Step). IsAcceptedFrom clauses cube s i) same
          (accepted_on clauses cube old steps i step below c.index-steps-i.is c.loop-i.invariant.0 right.0
          (subst (λ (s : List Step). IsAcceptedFrom clauses cube s (i + 1)) (sym same) k)))),
      right.3,
      c.take_step.ensures.formula c.loop-i.invariant.3,
    )

pub returns-then-branch : goal.returns-then-branch
returns-then-branch g c =
    let clauses = (g.F.ClauseList.formula c.args.formula.now).clauses in
    let cube = c.args.cube.now in
    let steps = c.steps-steps.result.now in
    let step = c.index-steps-i.result in
    let i = c.loop-i.i in
    let same : steps ≡ c.args.derivation.now = c.steps-steps.ensures.steps in
    let below : i < length steps = (let l = ap length same in omega (arith, l, c.loop-i-test.true, c.requires.1)) in
    let right = c.in_ok-take_step.ensures.step c.loop-i.invariant.3 c.loop-i.invariant.2 in
    c.loop-i.invariant.1
    (subst (λ (s : List Step). IsAcceptedFrom clauses cube s i) same
    (accepted_here clauses cube (clause_at clauses c.loop-i.active.clauses) steps i step below c.index-steps-i.is c.loop-i.invariant.0 right.0 (sym right.1 ∙ c.if-branch.true)))
