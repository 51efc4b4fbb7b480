use Rattle.std.proofs.Common.{◌≡◌, ◌≤◌, ◌-◌, ◌<◌, ◌∙◌, sym, ap, length, get_or, Some, arith}
use Rattle.lrat_check.proofs.Counting.ActiveLemmas.{cube_at, nothing_at}
use Rattle.lrat_check.proofs.active_clauses.clause_at_start.Goals as goal

pub returns-then-place-count-2 : goal.returns-then-place-count-2
returns-then-place-count-2 g c =
    let clauses = (g.F.ClauseList.formula c.args.formula.now).clauses in
    let above : 1 ≤ c.args.id = omega arith in
    let past : length clauses ≤ c.args.id - 1 = omega arith in
    let within : c.args.id - 1 - length clauses < length c.args.cube.now = omega arith in
    let here : c.index-cube-place.result ≡ get_or c.args.cube.now (c.args.id - 1 - length clauses) c.index-cube-place.result =
    c.index-cube-place.is ∙ ap (λ k. get_or c.args.cube.now (c.args.id - 1 - k) c.index-cube-place.result) c.count-count.ensures in
    cube_at clauses c.args.cube.now c.args.id c.index-cube-place.result above past within here ∙ ap Some (sym c.unit.ensures)

pub returns : goal.returns
returns g c =
    let clauses = (g.F.ClauseList.formula c.args.formula.now).clauses in
    let above : 1 ≤ c.args.id = omega arith in
    let past : length clauses ≤ c.args.id - 1 = omega arith in
    let none : length c.args.cube.now ≤ c.args.id - 1 - length clauses = omega arith in
    nothing_at clauses c.args.cube.now c.args.id above past none
