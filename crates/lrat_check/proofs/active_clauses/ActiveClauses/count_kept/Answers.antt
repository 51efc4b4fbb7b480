use Rattle.std.proofs.lemmas.Result.{on_ok_weaker}
use Rattle.lrat_check.proofs.active_clauses.ActiveClauses.count_kept.Goals as goal

pub returns : goal.returns
returns g c =
    let clauses = (g.F.ClauseList.formula c.args.formula.now).clauses in
    on_ok_weaker c.take_tree_off.result (λ far h. far (c.in_ok-take_table_off.ensures (c.in_ok-count_cube.ensures clauses h))) c.take_tree_off.ensures
