use Rattle.std.proofs.Common.{◌∷◌, [], ◌∙◌, ap, sym, Some}
use Rattle.std.proofs.lemmas.Result.{on_ok_weaker}
use Rattle.lrat_check.specs.Active.{without}
use Rattle.lrat_check.proofs.Counting.ChangeLemmas.{changes_same}
use Rattle.lrat_check.proofs.Counting.KeptLemmas.{without_none}
use Rattle.lrat_check.proofs.active_clauses.take_start_clause_off.Goals as goal

pub returns-in-Some : goal.returns-in-Some
returns-in-Some g c =
    let clauses = (g.F.ClauseList.formula c.args.formula.now).clauses in
    on_ok_weaker c.remove.result (λ less active there h. less clauses active c.args.id (there ∙ c.in-Some.ensures ∙ ap Some (sym c.as_slice.ensures.literals)) h) c.remove.ensures

pub returns-in-None : goal.returns-in-None
returns-in-None g c = λ active there h.
    let clauses = (g.F.ClauseList.formula c.args.formula.now).clauses in
    changes_same clauses active (without (c.args.id ∷ []) active) c.args.changes.now (without_none active c.args.id (there ∙ c.in-None.ensures)) h
