use Rattle.std.proofs.Common.{◌∙◌}
use Rattle.result_ledger.proofs.DerivationLemmas.{answer_on}
use Rattle.result_ledger.proofs.derivations.take_derivations.Goals as goal

pub loop-slot-preserved : goal.loop-slot-preserved
loop-slot-preserved c = c.in_ok-push_answer.ensures ∙ answer_on c.loop-slot.yielded c.in-Some.slot c.loop-slot.derivations.items c.loop-slot.invariant
