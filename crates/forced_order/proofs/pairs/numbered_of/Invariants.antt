use Rattle.std.proofs.Common.{◌≡◌, map, take}
use Rattle.forced_order.specs.Forced.{numbered_pair}
use Rattle.forced_order.proofs.pairs.numbered_of.Given as goal

abbrev pub invariant-loop-pair : goal.invariant-loop-pair
invariant-loop-pair l = l.numbers.items ≡ map (numbered_pair l.processes) (take l.pair-index l.pairs)
