use Rattle.std.proofs.Common.{◌+◌}
use Rattle.lrat_check.specs.ClauseAt.{kept_at, early_at}
use Rattle.lrat_check.specs.Counted.{AreChanges}
use Rattle.lrat_check.proofs.active_clauses.ActiveClauses.count_rows.Given as goal

abbrev pub invariant-loop-place : goal.invariant-loop-place
invariant-loop-place g l =
    let clauses = (g.F.ClauseList.formula l.formula).clauses in
    AreChanges clauses (kept_at clauses l.self) l.initial.changes → AreChanges clauses (early_at clauses l.self (l.self.added.first + l.place)) l.changes
