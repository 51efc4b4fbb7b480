use Rattle.result_ledger.proofs.AnswerLemmas.{proof_answer}
use Rattle.result_ledger.proofs.confirming.is_proved.Goals as goal

pub returns : goal.returns
returns g c = proof_answer (g.L.ClauseList.formula c.args.formula.now).clauses c.args.slot.now c.in-Some.derivation.now c.in_ok-proved.proved c.in-Some.ensures (rw c.as_slice.ensures.literals at c.in_ok-proved.ensures)
