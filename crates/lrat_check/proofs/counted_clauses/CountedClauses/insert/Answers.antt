use Rattle.std.proofs.lemmas.Result.{on_ok_weaker}
use Rattle.lrat_check.specs.Active.{with_clause}
use Rattle.lrat_check.specs.ClauseAt.{clause_at}
use Rattle.lrat_check.proofs.Counting.KeptLemmas.{right_same}
use Rattle.lrat_check.proofs.counted_clauses.CountedClauses.insert.Goals as goal

pub returns-clause-counted : goal.returns-clause-counted
returns-clause-counted g c =
    let clauses = (g.F.ClauseList.formula c.args.formula.now).clauses in
    let old = clause_at clauses c.args.self.now.clauses in
    on_ok_weaker c.insert.result
    (λ same free h. right_same clauses (with_clause c.args.id c.args.clause.now old) (clause_at clauses c.insert.new.self) c.count_in.new.changes same (c.in_ok-count_in.ensures clauses old c.args.id free h))
    c.insert.ensures
