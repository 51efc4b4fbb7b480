use Rattle.result_ledger.proofs.CoverLemmas.{model_in_listed}
use Rattle.result_ledger.proofs.laws.unknown_holds_all_models.Goals as goal

pub returns : goal.returns
returns c = model_in_listed
