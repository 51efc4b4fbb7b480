use Rattle.std.proofs.Common.{◌≡◌, ◌++◌, ◌+◌, ◌-◌}
use Rattle.std.specs.List.{flat_map, range_with_len}
use Rattle.trace_semantics.specs.Trace.{operation_count}
use Rattle.clause_blocks.specs.Blocks.{no_cycle}
use Rattle.clause_blocks.proofs.transitivity.push_of_pair.Given as goal

abbrev pub invariant-loop-k : goal.invariant-loop-k
invariant-loop-k l = l.clauses.items ≡ l.initial.clauses.items ++ flat_map (λ k. no_cycle (operation_count l.layout) l.i l.j k) (range_with_len (l.j + 1) (l.k - (l.j + 1)))
