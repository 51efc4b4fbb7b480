use Rattle.std.proofs.Common.{◌≡◌, ◌<◌, ◌≤◌, ◌∷◌, [], ◌∙◌, length, vec_len, true, false, arith, rules}
use Rattle.std.specs.Prelude.{nat_lt}
use Rattle.std.proofs.lemmas.Bool.{ltb-true, ltb-false}
use Rattle.std.proofs.lemmas.Result.{on_ok_weaker}
use Rattle.lrat_check.specs.Active.{at_start, without}
use Rattle.lrat_check.specs.Hidden.{is_hidden, kept_by_tree, kept_by_table}
use Rattle.lrat_check.proofs.Counting.ChangeLemmas.{changes_same}
use Rattle.lrat_check.proofs.Counting.HiddenLemmas.{still_there, passed_hidden, passed_shown, past_table_hidden, past_table_kept, below_table_kept}
use Rattle.lrat_check.proofs.active_clauses.ActiveClauses.take_tree_id_off.Goals as goal

pub returns-then-reaches : goal.returns-then-reaches
returns-then-reaches g c = λ left rest splits last found h.
    let clauses = (g.F.ClauseList.formula c.args.formula.now).clauses in
    let start = at_start clauses c.args.self.now.cube.now in
    let hidden = c.args.self.now.hidden in
    let long : length hidden.near.items ≡ vec_len hidden.near = search rules in
    let first : nat_lt c.args.id (vec_len hidden.near) ≡ true = search rules in
    let reached = ltb-true c.args.id (vec_len hidden.near) first in
    let below : c.args.id < length hidden.near.items = omega (arith, long, reached) in
    changes_same clauses (kept_by_tree hidden start left) (kept_by_tree hidden start rest) c.args.changes.now
    (passed_shown (kept_by_table hidden start) (is_hidden hidden) left rest c.args.id splits (below_table_kept hidden start c.args.id below)) h

pub returns : goal.returns
returns g c =
    let clauses = (g.F.ClauseList.formula c.args.formula.now).clauses in
    let start = at_start clauses c.args.self.now.cube.now in
    let hidden = c.args.self.now.hidden in
    let near = kept_by_table hidden start in
    let id = c.args.id in
    let long : length hidden.near.items ≡ vec_len hidden.near = search rules in
    let first : nat_lt id (vec_len hidden.near) ≡ false = search rules in
    let behind = ltb-false id (vec_len hidden.near) first in
    let past : length hidden.near.items ≤ id = omega (arith, long, behind) in
    on_ok_weaker c.take_start_clause_off.result
    (λ less left rest splits last found h. changes_same clauses (without (id ∷ []) (kept_by_tree hidden start left)) (kept_by_tree hidden start rest) c.take_start_clause_off.new.changes
    (passed_hidden near (is_hidden hidden) left rest id splits (past_table_hidden hidden id past found) last)
    (less (kept_by_tree hidden start left) (still_there near (is_hidden hidden) left rest id splits ∙ past_table_kept hidden start id past) h))
    c.take_start_clause_off.ensures
