use Rattle.std.proofs.Common.{arith}
use Rattle.result_ledger.proofs.AnswerLemmas.{none_on, read}
use Rattle.result_ledger.proofs.confirming.first_model.Goals as goal

pub loop-leaf-preserved : goal.loop-leaf-preserved
loop-leaf-preserved g c =
    none_on (g.L.ClauseList.formula c.args.formula.now).clauses c.args.slots.now c.loop-leaf.leaf c.index-slots-leaf.result
    (read c.args.slots.now c.loop-leaf.leaf c.index-slots-leaf.result (omega arith) c.index-slots-leaf.is)
    c.in-None.ensures c.loop-leaf.invariant
