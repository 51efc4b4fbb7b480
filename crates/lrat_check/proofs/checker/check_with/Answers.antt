use Rattle.std.proofs.Common.{◌≡◌, ◌∷◌, ◌+◌, drop, ◌∙◌, sym, ap, subst, List, arith}
use Rattle.lrat_check.specs.Active.{at_start}
use Rattle.lrat_check.specs.ClauseAt.{clause_at}
use Rattle.lrat_check.proofs.Justifying.CheckLemmas.{IsWalked, walk_start, next_step, handed_on, walk_fails, walk_on, walk_ends}
use Rattle.lrat_check.proofs.SoundLemmas.{no_model, formula_no_zero, cube_no_zero}
use Rattle.lrat_check.specs.Derivation.{are_steps}
use Rattle.lrat_check.specs.declared.derivation.Step.{Step}
use Rattle.lrat_check.proofs.checker.check_with.Goals as goal

pub returns-in_err-take_step-clause-refused : goal.returns-in_err-take_step-clause-refused
returns-in_err-take_step-clause-refused g c =
    let formula = g.F.ClauseList.formula c.args.formula.now in
    let steps = c.steps-steps.result.now in
    let step = c.index-steps-i.result in
    let next : drop c.loop-i.i steps ≡ step ∷ drop (c.loop-i.i + 1) steps = next_step steps c.loop-i.i step (omega arith) c.index-steps-i.is in
    handed_on formula.clauses c.args.cube.now c.args.derivation.now c.from_residual.result c.in_err-take_step.field-0.0 c.from_residual.ensures.1
    (walk_fails formula.clauses c.args.cube.now c.args.derivation.now (clause_at formula.clauses c.loop-i.active.clauses) (c.loop-i.i + 1) (drop c.loop-i.i steps) step (drop (c.loop-i.i + 1) steps) c.in_err-take_step.field-0.0 c.loop-i.invariant.0 next (c.in_err-take_step.ensures.step c.loop-i.invariant.2 c.loop-i.invariant.1))

pub loop-i-preserved : goal.loop-i-preserved
loop-i-preserved g c =
    let formula = g.F.ClauseList.formula c.args.formula.now in
    let steps = c.steps-steps.result.now in
    let step = c.index-steps-i.result in
    let next : drop c.loop-i.i steps ≡ step ∷ drop (c.loop-i.i + 1) steps = next_step steps c.loop-i.i step (omega arith) c.index-steps-i.is in
    let right = c.in_ok-take_step.ensures.step c.loop-i.invariant.2 c.loop-i.invariant.1 in (
      walk_on (at_start formula.clauses c.args.cube.now) c.args.derivation.now (clause_at formula.clauses c.loop-i.active.clauses) (clause_at formula.clauses c.take_step.new.active.clauses) (c.loop-i.i + 1) (drop c.loop-i.i steps) step (drop (c.loop-i.i + 1) steps)
          c.loop-i.invariant.0 next right.0 (sym right.1 ∙ c.if-branch.false) right.2,
      right.3,
      c.take_step.ensures.formula c.loop-i.invariant.2,
    )

pub returns-then-branch-clause-sound : goal.returns-then-branch-clause-sound
returns-then-branch-clause-sound g c =
    let formula = g.F.ClauseList.formula c.args.formula.now in
    let steps = c.steps-steps.result.now in
    let step = c.index-steps-i.result in
    let next : drop c.loop-i.i steps ≡ step ∷ drop (c.loop-i.i + 1) steps = next_step steps c.loop-i.i step (omega arith) c.index-steps-i.is in
    let right = c.in_ok-take_step.ensures.step c.loop-i.invariant.2 c.loop-i.invariant.1 in
    no_model formula.clauses c.args.cube.now c.args.derivation.now
    (formula_no_zero formula.variables formula.clauses c.recall_invariant.ensures.formula)
    (cube_no_zero c.args.cube.now c.recall_literals.ensures)
    (ap are_steps (sym c.steps-steps.ensures.steps) ∙ c.steps-steps.ensures.clauses)
    (walk_ends (at_start formula.clauses c.args.cube.now) c.args.derivation.now (clause_at formula.clauses c.loop-i.active.clauses) (c.loop-i.i + 1) (drop c.loop-i.i steps) step (drop (c.loop-i.i + 1) steps)
    c.loop-i.invariant.0 next right.0 (sym right.1 ∙ c.if-branch.true))

pub loop-i-init : goal.loop-i-init
loop-i-init g c =
    let clauses = (g.F.ClauseList.formula c.args.formula.now).clauses in
    let start = at_start clauses c.args.cube.now in
    let active = clause_at clauses c.at_start-active.result.clauses in (
      subst (λ (steps : List Step). IsWalked start c.args.derivation.now active 1 steps) (sym c.steps-steps.ensures.steps) (walk_start start active c.args.derivation.now (c.at_start-active.ensures.active clauses)),
      c.at_start-active.ensures.counted clauses,
      c.requires,
    )

pub returns-then-branch-clause-formula : goal.returns-then-branch-clause-formula
returns-then-branch-clause-formula g c = c.take_step.ensures.formula c.loop-i.invariant.2

pub returns-in_err-take_step-clause-formula : goal.returns-in_err-take_step-clause-formula
returns-in_err-take_step-clause-formula g c = c.take_step.ensures.formula c.loop-i.invariant.2

pub returns-clause-formula : goal.returns-clause-formula
returns-clause-formula g c = c.loop-i.invariant.2
