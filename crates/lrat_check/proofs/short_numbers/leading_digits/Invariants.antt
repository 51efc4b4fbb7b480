use Rattle.std.proofs.Common.{◌≡◌}
use Rattle.lrat_check.specs.ShortNumbers.{AreLeadingDigits}
use Rattle.lrat_check.proofs.short_numbers.leading_digits.Given as goal

abbrev pub invariant-loop-byte : goal.invariant-loop-byte
invariant-loop-byte l = (l.count ≡ l.byte-index) × AreLeadingDigits l.text l.value l.count
