use Rattle.model_text.proofs.ModelTextLemmas.{one_spelled_model}
use Rattle.model_text.proofs.model_text_laws.one_model.Goals as goal

pub returns : goal.returns
returns c = one_spelled_model
