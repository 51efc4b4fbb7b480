use Rattle.lrat_check.proofs.checker.check.Goals as goal

pub check_with-requires : goal.check_with-requires
check_with-requires g c = c.new-counts.ensures (g.F.ClauseList.formula c.args.formula.now).clauses
