use Rattle.result_ledger.proofs.EnteredLemmas.{skipped_below}
use Rattle.result_ledger.proofs.laws.skipped_only_above_a_model.Goals as goal

pub returns : goal.returns
returns c = skipped_below
