use Rattle.std.proofs.Common.{◌≡◌, take}
use Rattle.lrat_check.proofs.hints.shorten_all.Given as goal

abbrev pub invariant-loop-number : goal.invariant-loop-number
invariant-loop-number l = l.short.items ≡ take l.number-index l.numbers
