use Rattle.std.proofs.Common.{◌+◌, drop}
use Rattle.lrat_check.specs.Active.{at_start}
use Rattle.lrat_check.specs.ClauseAt.{clause_at}
use Rattle.lrat_check.specs.Counted.{AreFormulaCounts, HasRightChanges}
use Rattle.lrat_check.proofs.Justifying.CheckLemmas.{IsWalked}
use Rattle.lrat_check.proofs.checker.check_with.Given as goal

abbrev pub invariant-loop-i : goal.invariant-loop-i
invariant-loop-i g l =
    let clauses = (g.F.ClauseList.formula l.formula).clauses in
    IsWalked (at_start clauses l.cube) l.derivation (clause_at clauses l.active.clauses) (l.i + 1) (drop l.i l.steps) × HasRightChanges clauses l.active × AreFormulaCounts clauses l.counts
