use Rattle.result_ledger.proofs.CoverLemmas.{no_model_anywhere}
use Rattle.result_ledger.proofs.laws.inconsistent_has_no_model.Goals as goal

pub returns : goal.returns
returns c = no_model_anywhere
