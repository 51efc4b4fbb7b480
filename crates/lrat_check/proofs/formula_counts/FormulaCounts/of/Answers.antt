use Rattle.std.proofs.Common.{ℕ, sym, subst, Option}
use Rattle.lrat_check.specs.Active.{numbered}
use Rattle.lrat_check.specs.Counted.{AreRightCounts}
use Rattle.lrat_check.specs.Counts.{IsCount}
use Rattle.lrat_check.specs.declared.literal_counts.LiteralCounts.{LiteralCounts}
use Rattle.lrat_check.proofs.formula_counts.FormulaCounts.of.Goals as goal

pub returns-in-Some-clause-count : goal.returns-in-Some-clause-count
returns-in-Some-clause-count g c = λ h.
    let active = numbered (g.F.ClauseList.formula c.args.formula.now).clauses in
    subst (λ (n : ℕ). IsCount active c.args.literal n) (sym c.of.ensures) (subst (λ (o : Option LiteralCounts). AreRightCounts active o) c.in-Some.is h c.args.literal)

pub returns-clause-count : goal.returns-clause-count
returns-clause-count g c = λ h.
    let active = numbered (g.F.ClauseList.formula c.args.formula.now).clauses in
    subst (λ (n : ℕ). IsCount active c.args.literal n) (sym c.of-count.ensures) (c.in_ok-counts.ensures c.args.literal)
