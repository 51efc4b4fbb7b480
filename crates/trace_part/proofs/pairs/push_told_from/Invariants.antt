use Rattle.std.proofs.Common.{◌≡◌, ◌++◌}
use Rattle.std.proofs.Math.ListN.{drop}
use Rattle.trace_part.specs.Told.{told_from}
use Rattle.trace_part.proofs.pairs.push_told_from.Given as goal

abbrev pub invariant-loop-k : goal.invariant-loop-k
invariant-loop-k l = l.pairs.items ++ told_from l.order l.groups (drop l.k l.group) ≡ l.initial.pairs.items ++ told_from l.order l.groups l.group
