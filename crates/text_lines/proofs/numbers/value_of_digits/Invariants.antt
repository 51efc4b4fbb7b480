use Rattle.std.proofs.Common.{◌^◌}
use Rattle.text_lines.proofs.Decimals.NumberLemmas.{IsValueSoFar}
use Rattle.text_lines.proofs.numbers.value_of_digits.Given as goal

abbrev pub invariant-loop-digit : goal.invariant-loop-digit
invariant-loop-digit l = IsValueSoFar (2 ^ 64) l.digits l.digit-index l.value
