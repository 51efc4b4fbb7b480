use Rattle.std.proofs.Common.{length}
use Rattle.model_text.proofs.ModelReadLemmas.{AreTaken}
use Rattle.model_text.proofs.model_reader.ModelReader.take_words.Given as goal

abbrev pub invariant-loop-word : goal.invariant-loop-word
invariant-loop-word l = AreTaken l.line_number l.words l.rest l.fn.self l.self

abbrev pub decreases-loop-word : goal.decreases-loop-word
decreases-loop-word l = length l.rest
