use Rattle.std.proofs.Common.{drop}
use Rattle.lrat_check.proofs.Justifying.RefuteLemmas.{IsOnTheWay}
use Rattle.lrat_check.specs.ClauseAt.{clause_at}
use Rattle.lrat_check.specs.Hints.{first_hints}
use Rattle.lrat_check.specs.Propagation.{Extends}
use Rattle.lrat_check.proofs.propagation.propagate.Given as goal

abbrev pub invariant-loop-hint : goal.invariant-loop-hint
invariant-loop-hint g l =
    Extends l.trues l.initial.trues
    × IsOnTheWay (clause_at (g.F.ClauseList.formula l.formula).clauses l.active) l.initial.trues (first_hints l.hints) l.trues (first_hints (drop l.hint-index l.hints))
