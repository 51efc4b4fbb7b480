use Rattle.result_ledger.specs.Ledger.{HasAnswerAt}
use Rattle.result_ledger.specs.Verdict.{AreWithout}
use Rattle.result_ledger.proofs.ledger.unanswered_among.Given as goal

abbrev pub invariant-loop-leaf : goal.invariant-loop-leaf
invariant-loop-leaf l = AreWithout (HasAnswerAt l.slots) l.leaf l.leaves.items
