use Rattle.std.proofs.Common.{refl}
use Rattle.model_text.proofs.ModelReadLemmas.{nothing_read}
use Rattle.model_text.proofs.model_reader.ModelReader.new.Goals as goal

pub returns : goal.returns
returns c = nothing_read _ c.new.ensures.items c.new-2.ensures.items refl
