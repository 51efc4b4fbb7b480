use Rattle.result_ledger.specs.Verdict.{HaveNoModelBefore}
use Rattle.result_ledger.proofs.confirming.first_model.Given as goal

abbrev pub invariant-loop-leaf : goal.invariant-loop-leaf
invariant-loop-leaf g l = HaveNoModelBefore (g.L.ClauseList.formula l.formula).clauses l.slots l.leaf
