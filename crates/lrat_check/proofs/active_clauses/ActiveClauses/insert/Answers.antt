use Rattle.std.proofs.Common.{◌∙◌, eqb, cond}
use Rattle.std.specs.Prelude.{Some}
use Rattle.std.specs.Option.{option_or}
use Rattle.std.proofs.lemmas.Result.{on_ok_weaker}
use Rattle.lrat_check.specs.AddedAt.{held_at}
use Rattle.lrat_check.specs.ClauseAt.{kept_at, added_at}
use Rattle.lrat_check.proofs.Counting.ActiveLemmas.{inserted}
use Rattle.lrat_check.proofs.active_clauses.ActiveClauses.insert.Goals as goal

pub returns : goal.returns
returns g c =
    let clauses = (g.F.ClauseList.formula c.args.formula.now).clauses in
    on_ok_weaker c.insert.result
    (λ held other.
    let same = eqb c.args.id other in
    let changed = held other ∙ (λ i. cond same (Some c.args.clause.now) (held_at (c.in_ok-hide.ensures.added i) other)) in
    (λ i. option_or (c.in_ok-hide.ensures.hidden other i) (changed i))
    ∙ inserted same (kept_at clauses c.args.self.now other) (added_at c.args.self.now other) c.args.clause.now)
    c.insert.ensures
