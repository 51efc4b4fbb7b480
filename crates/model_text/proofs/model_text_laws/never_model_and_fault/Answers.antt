use Rattle.model_text.proofs.ModelTextLemmas.{never_both_model}
use Rattle.model_text.proofs.model_text_laws.never_model_and_fault.Goals as goal

pub returns : goal.returns
returns c = never_both_model
