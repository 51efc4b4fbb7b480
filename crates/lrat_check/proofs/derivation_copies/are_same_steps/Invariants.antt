use Rattle.std.proofs.Common.{◌≡◌, ◌≤◌, length, take}
use Rattle.lrat_check.proofs.derivation_copies.are_same_steps.Given as goal

abbrev pub invariant-loop-i : goal.invariant-loop-i
invariant-loop-i l = (take l.i l.first ≡ take l.i l.second) × (l.i ≤ length l.first)
