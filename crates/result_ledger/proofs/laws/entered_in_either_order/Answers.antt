use Rattle.result_ledger.proofs.EnteredLemmas.{reordered}
use Rattle.result_ledger.proofs.laws.entered_in_either_order.Goals as goal

pub returns : goal.returns
returns c = reordered
