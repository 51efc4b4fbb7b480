use Rattle.std.proofs.Common.{eqb}
use Rattle.std.specs.List.{IsDistinct}
use Rattle.lrat_check.specs.Active.{at_start}
use Rattle.lrat_check.specs.Counted.{AreChanges}
use Rattle.lrat_check.specs.Hidden.{kept_by_tree, kept_by_table}
use Rattle.lrat_check.proofs.Counting.HiddenLemmas.{is_among}
use Rattle.lrat_check.proofs.active_clauses.ActiveClauses.take_tree_off.Given as goal

abbrev pub invariant-loop-id : goal.invariant-loop-id
invariant-loop-id g l =
    let clauses = (g.F.ClauseList.formula l.formula).clauses in
    let start = at_start clauses l.self.cube.now in
    IsDistinct eqb l.id-iterator × (AreChanges clauses (kept_by_table l.self.hidden start) l.initial.changes → AreChanges clauses (kept_by_tree l.self.hidden start (is_among l.id-iterator)) l.changes)
