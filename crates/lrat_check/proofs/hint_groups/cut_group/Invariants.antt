use Rattle.std.proofs.Common.{◌≡◌, drop}
use Rattle.lrat_check.specs.Hints.{groups_of}
use Rattle.lrat_check.proofs.hint_groups.cut_group.Given as goal

abbrev pub invariant-loop-i : goal.invariant-loop-i
invariant-loop-i l = groups_of (drop l.i l.hints) ≡ groups_of l.hints
