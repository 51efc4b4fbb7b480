use Rattle.lrat_check.specs.Counted.{AreFormulaCounts}
use Rattle.certificate.specs.Rechecked.{AreProvedBelow}
use Rattle.certificate.proofs.rechecking.first_refused.Given as goal

abbrev pub invariant-loop-leaf : goal.invariant-loop-leaf
invariant-loop-leaf g l =
    let clauses = (g.L.ClauseList.formula l.clauses).clauses in
    AreProvedBelow clauses l.cubes l.sections l.leaf × AreFormulaCounts clauses l.counts
