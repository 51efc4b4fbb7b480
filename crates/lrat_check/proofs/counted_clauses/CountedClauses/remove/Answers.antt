use Rattle.std.proofs.Common.{◌∷◌, []}
use Rattle.std.proofs.lemmas.Result.{on_ok_weaker}
use Rattle.lrat_check.specs.Active.{without}
use Rattle.lrat_check.specs.ClauseAt.{clause_at}
use Rattle.lrat_check.proofs.Counting.KeptLemmas.{right_same}
use Rattle.lrat_check.proofs.counted_clauses.CountedClauses.remove.Goals as goal

pub returns-clause-counted : goal.returns-clause-counted
returns-clause-counted g c =
    let clauses = (g.F.ClauseList.formula c.args.formula.now).clauses in
    let old = clause_at clauses c.args.self.now.clauses in
    on_ok_weaker c.remove.result
    (λ same h. right_same clauses (without (c.args.id ∷ []) old) (clause_at clauses c.remove.new.self) c.count_out.new.changes same (c.in_ok-count_out.ensures h))
    c.remove.ensures
