use Rattle.std.proofs.Common.{length}
use Rattle.lrat_check.specs.OtherCubes.{AreServed}
use Rattle.result_ledger.proofs.AnswerLemmas.{served_answer}
use Rattle.result_ledger.proofs.confirming.serves.Goals as goal

pub returns : goal.returns
returns g c = λ h.
    let clauses = (g.L.ClauseList.formula c.args.formula.now).clauses in
    let steps = c.in-Some.derivation.now in
    let of : AreServed c.count.result c.args.first.now.cube c.args.second.now.cube steps = rw c.as_slice.ensures.literals at (rw c.as_slice-2.ensures.literals at (c.are_served.ensures.0 h)) in
    let served : AreServed (length clauses) c.args.first.now.cube c.args.second.now.cube steps = rw c.count.ensures at of in
    served_answer clauses c.args.first.now c.args.second.now steps c.in-Some-said_derivation.other.now c.in-Some.ensures c.in-Some-said_derivation.ensures
    (c.are_same-same.ensures c.if-not-same.false)
    (c.accepted_for_other_cubes.ensures clauses c.args.first.now.cube c.args.second.now.cube steps served)
