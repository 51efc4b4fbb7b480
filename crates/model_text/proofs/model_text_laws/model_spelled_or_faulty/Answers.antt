use Rattle.model_text.proofs.ModelTextLemmas.{spelled_or_refused_model}
use Rattle.model_text.proofs.model_text_laws.model_spelled_or_faulty.Goals as goal

pub returns : goal.returns
returns c = spelled_or_refused_model
