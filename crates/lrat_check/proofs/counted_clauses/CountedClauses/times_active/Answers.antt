use Rattle.std.proofs.Common.{subst, Option}
use Rattle.std.proofs.lemmas.Result.{IfOk-weaker}
use Rattle.lrat_check.specs.ClauseAt.{clause_at}
use Rattle.lrat_check.specs.Counted.{AreRightChanges}
use Rattle.lrat_check.specs.declared.count_changes.CountChanges.{CountChanges}
use Rattle.lrat_check.proofs.counted_clauses.CountedClauses.times_active.Goals as goal

pub returns-in-Some-clause-count : goal.returns-in-Some-clause-count
returns-in-Some-clause-count g c =
    let clauses = (g.F.ClauseList.formula c.args.formula.now).clauses in
    let active = clause_at clauses c.args.self.now.clauses in
    IfOk-weaker c.applied.result _ _ (λ count is base h. is clauses active (subst (λ (o : Option CountChanges). AreRightChanges clauses active o) c.in-Some.is h) (c.in_ok-base.ensures.count base)) c.applied.ensures

pub returns-clause-count : goal.returns-clause-count
returns-clause-count g c = λ base h.
    let clauses = (g.F.ClauseList.formula c.args.formula.now).clauses in
    c.in_ok-count.ensures clauses (clause_at clauses c.args.self.now.clauses) c.in_ok-changes.ensures (c.in_ok-base.ensures.count base)
