use Rattle.std.proofs.Common.{◌≡◌, ◌++◌, length}
use Rattle.std.specs.List.{flat_map}
use Rattle.std.specs.Vec.Iter.{into_iter_items, into_iter_len}
use Rattle.clause_blocks.specs.Cycles.{both}
use Rattle.clause_blocks.proofs.parallel_transitivity.push_cycles.Given as goal

abbrev pub invariant-loop-cycle : goal.invariant-loop-cycle
invariant-loop-cycle l =
    (l.fn.cycles.items ≡ l.yielded ++ into_iter_items l.cycle-iterator)
    × (into_iter_len l.cycle-iterator ≡ length (into_iter_items l.cycle-iterator))
    × (l.clauses.items ≡ l.initial.clauses.items ++ flat_map both l.yielded)
