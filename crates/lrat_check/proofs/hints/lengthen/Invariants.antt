use Rattle.std.proofs.Common.{◌≡◌, length, take}
use Rattle.lrat_check.proofs.hints.lengthen.Given as goal

abbrev pub invariant-loop-i : goal.invariant-loop-i
invariant-loop-i l = (length l.numbers ≡ length l.short) × (take l.i l.numbers ≡ take l.i l.short)
