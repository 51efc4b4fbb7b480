use Rattle.std.proofs.Common.{◌∷◌, [], ◌∙◌, ap, sym, subst, Option, Some}
use Rattle.lrat_check.specs.Active.{without}
use Rattle.lrat_check.specs.ClauseAt.{clause_at}
use Rattle.lrat_check.specs.Counted.{AreRightChanges}
use Rattle.lrat_check.specs.declared.count_changes.CountChanges.{CountChanges}
use Rattle.lrat_check.proofs.Counting.ChangeLemmas.{changes_same}
use Rattle.lrat_check.proofs.Counting.KeptLemmas.{without_none}
use Rattle.lrat_check.proofs.counted_clauses.count_out.Goals as goal

pub returns-in_ok-remove : goal.returns-in_ok-remove
returns-in_ok-remove g c = λ h.
    let clauses = (g.F.ClauseList.formula c.args.formula.now).clauses in
    let active = clause_at clauses c.args.clauses.now in
    c.in_ok-remove.ensures clauses active c.args.id (c.in-Some-get.ensures ∙ ap Some (sym c.as_slice.ensures.literals)) (subst (λ (o : Option CountChanges). AreRightChanges clauses active o) c.in-Some.is h)

pub returns-in_default-get : goal.returns-in_default-get
returns-in_default-get g c = λ h.
    let clauses = (g.F.ClauseList.formula c.args.formula.now).clauses in
    let active = clause_at clauses c.args.clauses.now in
    changes_same clauses active (without (c.args.id ∷ []) active) c.in-Some.changes (without_none active c.args.id c.in_default-get.ensures)
    (subst (λ (o : Option CountChanges). AreRightChanges clauses active o) c.in-Some.is h)
