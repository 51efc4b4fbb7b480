use Rattle.std.proofs.Common.{◌≡◌, None, replicate}
use Rattle.parallel_map.proofs.joining.nothing_done.Given as goal

abbrev pub invariant-loop : goal.invariant-loop
invariant-loop g l = l.found.items ≡ replicate l.counter None
