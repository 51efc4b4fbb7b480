use Rattle.lrat_check.specs.Active.{at_start}
use Rattle.lrat_check.specs.Counted.{AreChanges}
use Rattle.lrat_check.specs.Hidden.{kept_by_table_from}
use Rattle.lrat_check.proofs.active_clauses.ActiveClauses.take_table_off.Given as goal

abbrev pub invariant-loop-id : goal.invariant-loop-id
invariant-loop-id g l =
    let clauses = (g.F.ClauseList.formula l.formula).clauses in
    let start = at_start clauses l.self.cube.now in
    AreChanges clauses start l.initial.changes → AreChanges clauses (kept_by_table_from l.self.hidden start l.id) l.changes
