use Rattle.std.proofs.Common.{length, map}
use Rattle.text_lines.proofs.Cutting.TakeLemmas.{AreFirstWords}
use Rattle.text_lines.proofs.words.first_words.Given as goal

abbrev pub invariant-loop-rest : goal.invariant-loop-rest
invariant-loop-rest l = AreFirstWords 11 l.fn.line (map (λ word. word.now) l.words) l.rest

abbrev pub decreases-loop-rest : goal.decreases-loop-rest
decreases-loop-rest l = length l.rest
