use Rattle.std.proofs.Common.{◌∙◌, eqb, cond, ◌||◌, false}
use Rattle.std.specs.Prelude.{None}
use Rattle.std.specs.Option.{option_or}
use Rattle.lrat_check.specs.AddedAt.{held_at}
use Rattle.lrat_check.specs.ClauseAt.{kept_at, added_at}
use Rattle.lrat_check.proofs.Counting.ActiveLemmas.{removed}
use Rattle.lrat_check.proofs.active_clauses.ActiveClauses.remove.Goals as goal

pub returns : goal.returns
returns g c = λ other.
    let clauses = (g.F.ClauseList.formula c.args.formula.now).clauses in
    let same = eqb c.args.id other in
    let changed = c.remove.ensures other ∙ (λ i. cond (same || false) None (held_at (c.in_ok-hide.ensures.added i) other)) in
    (λ i. option_or (c.in_ok-hide.ensures.hidden other i) (changed i))
    ∙ removed same (kept_at clauses c.args.self.now other) (added_at c.args.self.now other)
