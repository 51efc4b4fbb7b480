use Rattle.std.proofs.Common.{length}
use Rattle.model_text.proofs.ModelReadLemmas.{IsModelSoFar}
use Rattle.model_text.proofs.model_reader.read_model.Given as goal

abbrev pub invariant-loop-line : goal.invariant-loop-line
invariant-loop-line l = IsModelSoFar l.text l.line_number l.rest l.reader

abbrev pub decreases-loop-line : goal.decreases-loop-line
decreases-loop-line l = length l.rest
