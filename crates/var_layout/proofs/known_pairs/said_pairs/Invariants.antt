use Rattle.std.proofs.Common.{◌≡◌}
use Rattle.std.specs.List.{flat_map, range_with_len}
use Rattle.var_layout.specs.KnownPairs.{said_after}
use Rattle.var_layout.proofs.known_pairs.said_pairs.Given as goal

abbrev pub invariant-loop-i : goal.invariant-loop-i
invariant-loop-i l = l.said.items ≡ flat_map (said_after l.numbering) (range_with_len 0 l.i)
