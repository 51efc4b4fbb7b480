use Rattle.std.proofs.Common.{◌≡◌, take}
use Rattle.lrat_check.proofs.hints.few_of.Given as goal

abbrev pub invariant-loop-number : goal.invariant-loop-number
invariant-loop-number l = l.few ≡ take l.number-index l.numbers
