use Rattle.result_ledger.proofs.EnteredLemmas.{entered, in_turn}
use Rattle.result_ledger.proofs.laws.entered_in_turn_is_entered.Goals as goal

pub returns : goal.returns
returns c = λ slots ledger results. (entered slots results ledger, in_turn slots results ledger)
