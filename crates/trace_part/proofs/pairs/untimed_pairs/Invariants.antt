use Rattle.std.proofs.Common.{◌≡◌, take}
use Rattle.std.specs.List.{filter}
use Rattle.trace_part.specs.Told.{is_untimed}
use Rattle.trace_part.proofs.pairs.untimed_pairs.Given as goal

abbrev pub invariant-loop-pair : goal.invariant-loop-pair
invariant-loop-pair l = l.left.items ≡ filter (is_untimed l.trace.processes) (take l.pair-index l.pairs)
