use Rattle.std.proofs.Common.{◌≡◌, true, false}
use Rattle.lrat_check.specs.Checked.{IsRefused}
use Rattle.result_ledger.proofs.confirming.is_accepted.Goals as goal

pub returns-in-Err-At : goal.returns-in-Err-At
returns-in-Err-At g c =
    let refused : IsRefused (g.L.ClauseList.formula c.args.formula.now).clauses c.args.cube.now c.args.derivation.now c.in-Err-At.field-0-0 c.in-Err-At.field-0-1 = rw c.in-Err-At.field-0-is at c.in-Err-At.ensures.refused in
    (λ h. absurd (let e : false ≡ true = h in cc), λ a. absurd (c.never_accepted_and_refused.ensures _ _ _ _ _ a refused))
