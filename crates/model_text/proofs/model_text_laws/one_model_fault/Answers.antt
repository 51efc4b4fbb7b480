use Rattle.model_text.proofs.ModelTextLemmas.{one_refused_model}
use Rattle.model_text.proofs.model_text_laws.one_model_fault.Goals as goal

pub returns : goal.returns
returns c = one_refused_model
