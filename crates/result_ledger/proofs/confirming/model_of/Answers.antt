use Rattle.std.proofs.Common.{◌≡◌, true, false, sym, ◌∙◌}
use Rattle.result_ledger.proofs.AnswerLemmas.{no_model_answer}
use Rattle.result_ledger.proofs.confirming.model_of.Goals as goal

pub returns-else-is_model_in : goal.returns-else-is_model_in
returns-else-is_model_in g c =
    let right = rw c.as_slice.ensures.literals at c.is_model_in.ensures in
    no_model_answer (g.L.ClauseList.formula c.args.formula.now).clauses c.args.slot.now c.in_ok-assignment.assignment.now c.in_ok-assignment.ensures
    (λ h. absurd (let e : false ≡ true = sym c.if-is_model_in.false ∙ right.1 h in cc))
