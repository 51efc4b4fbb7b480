use Rattle.text_lines.proofs.Decimals.NumberLemmas.{AreFewDigits}
use Rattle.text_lines.proofs.numbers.value_of_few.Given as goal

abbrev pub invariant-loop-byte : goal.invariant-loop-byte
invariant-loop-byte l = AreFewDigits l.word l.byte-index l.value
