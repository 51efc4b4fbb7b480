use Rattle.std.proofs.Common.{◌≡◌, ◌+◌, ◌∷◌, [], ap, true, false, cond, leb, rules}
use Rattle.std.specs.Prelude.{None}
use Rattle.std.proofs.lemmas.Result.{on_ok_weaker}
use Rattle.lrat_check.specs.Active.{at_start, without}
use Rattle.lrat_check.specs.Hidden.{kept_by_table_from}
use Rattle.lrat_check.specs.Marks.{marked_at}
use Rattle.lrat_check.proofs.Counting.ChangeLemmas.{changes_same}
use Rattle.lrat_check.proofs.Counting.HiddenLemmas.{still_there, passed_hidden, passed_shown}
use Rattle.lrat_check.proofs.Counting.KeptLemmas.{from_next, next_is_first}
use Rattle.lrat_check.proofs.active_clauses.ActiveClauses.take_table_id_off.Goals as goal

pub returns-then-table_hides : goal.returns-then-table_hides
returns-then-table_hides g c =
    let clauses = (g.F.ClauseList.formula c.args.formula.now).clauses in
    let start = at_start clauses c.args.self.now.cube.now in
    let hidden = c.args.self.now.hidden in
    let near = marked_at hidden.near.items in
    let id = c.args.id in
    let before = kept_by_table_from hidden start id in
    let is : near id ≡ true = search rules in
    on_ok_weaker c.take_start_clause_off.result
    (λ less h. changes_same clauses (without (id ∷ []) before) (kept_by_table_from hidden start (id + 1)) c.take_start_clause_off.new.changes
    (passed_hidden start near (leb id) (leb (id + 1)) id (from_next id) is (next_is_first id)) (less before (still_there start near (leb id) (leb (id + 1)) id (from_next id)) h))
    c.take_start_clause_off.ensures

pub returns : goal.returns
returns g c = λ h.
    let clauses = (g.F.ClauseList.formula c.args.formula.now).clauses in
    let start = at_start clauses c.args.self.now.cube.now in
    let hidden = c.args.self.now.hidden in
    let near = marked_at hidden.near.items in
    let id = c.args.id in
    let is : near id ≡ false = search rules in
    changes_same clauses (kept_by_table_from hidden start id) (kept_by_table_from hidden start (id + 1)) c.args.changes.now
    (passed_shown start near (leb id) (leb (id + 1)) id (from_next id) (ap (λ b. cond b None (start id)) is)) h
