use Rattle.std.proofs.Common.{◌≡◌, take}
use Rattle.std.specs.List.{flat_map}
use Rattle.trace_part.specs.Told.{told_from}
use Rattle.trace_part.proofs.pairs.told_pairs.Given as goal

abbrev pub invariant-loop-k : goal.invariant-loop-k
invariant-loop-k l = l.pairs.items ≡ flat_map (told_from l.order l.groups) (take l.k l.groups)
