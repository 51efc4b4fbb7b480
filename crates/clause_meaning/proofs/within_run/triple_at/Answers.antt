use Rattle.std.proofs.Common.{◌-◌, ◌*◌, ◌<◌, ◌≤◌, refl, sym, ◌∙◌, arith}
use Rattle.clause_meaning.proofs.TripleLemmas.{triple_here, triple_later}
use Rattle.clause_meaning.proofs.within_run.triple_at.Goals as goal

pub returns-then-rest-with_middle : goal.returns-then-rest-with_middle
returns-then-rest-with_middle c =
    let low : c.loop-j.j < c.args.n = omega (arith, c.loop-j-test.true) in
    let inside : c.loop-j.rest < 2 * (c.args.n - c.loop-j.j - 1) = omega (arith, c.if-rest-with_middle.true) in
    sym (c.loop-j.invariant ∙ triple_here c.args.n c.args.i c.loop-j.j low c.loop-j.rest inside)

pub loop-j-preserved : goal.loop-j-preserved
loop-j-preserved c =
    let low : c.loop-j.j < c.args.n = omega (arith, c.loop-j-test.true) in
    let past : 2 * (c.args.n - c.loop-j.j - 1) ≤ c.loop-j.rest = omega (arith, c.if-rest-with_middle.false) in
    c.loop-j.invariant ∙ triple_later c.args.n c.args.i c.loop-j.j low c.loop-j.rest (c.loop-j.rest - 2 * (c.args.n - c.loop-j.j - 1)) past refl
