use Rattle.std.proofs.Common.{◌≡◌, ◌<◌, ℕ, length, take, ap, ◌∙◌, arith}
use Rattle.lrat_check.specs.Active.{at_start}
use Rattle.lrat_check.specs.ClauseAt.{clause_at}
use Rattle.lrat_check.specs.Pieces.{after_all}
use Rattle.lrat_check.specs.declared.active_clauses.ActiveClauses.{ActiveClauses}
use Rattle.lrat_check.proofs.PieceLemmas.{passed_on}
use Rattle.lrat_check.proofs.pieces.active_after.Goals as goal

pub loop-i-preserved : goal.loop-i-preserved
loop-i-preserved g c =
    let clauses = (g.F.ClauseList.formula c.args.formula.now).clauses in
    let steps = c.args.steps.now in
    let below : c.loop-i.i < length steps = omega (arith, c.loop-i-test.true, c.requires) in
    passed_on (at_start clauses c.args.cube.now) (clause_at clauses c.loop-i.active.clauses) (clause_at clauses c.pass_step.new.active.clauses) steps c.loop-i.i c.index-steps-i.result
    below c.index-steps-i.is c.loop-i.invariant c.in_ok-pass_step.ensures

pub returns-clause-active : goal.returns-clause-active
returns-clause-active g c = λ id.
    let clauses = (g.F.ClauseList.formula c.args.formula.now).clauses in
    let start = at_start clauses c.args.cube.now in
    let done : c.loop-i.i ≡ c.args.count = omega (arith, c.loop-i-test.false, c.loop-i.auto.i-end) in
    ap (λ (k : ActiveClauses). clause_at clauses k id) c.uncounted.ensures.same
    ∙ c.loop-i.invariant id
    ∙ ap (λ (n : ℕ). after_all start (take n c.args.steps.now) id) done

pub returns-clause-counted : goal.returns-clause-counted
returns-clause-counted g c = c.uncounted.ensures.counted (g.F.ClauseList.formula c.args.formula.now).clauses
