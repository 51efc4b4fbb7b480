use Rattle.std.proofs.lemmas.Result.{on_ok_weaker}
use Rattle.lrat_check.proofs.active_clauses.ActiveClauses.count_added.Goals as goal

pub returns : goal.returns
returns g c = on_ok_weaker c.count_in_tree.result (λ in_tree h. in_tree (c.in_ok-count_rows.ensures h)) c.count_in_tree.ensures
