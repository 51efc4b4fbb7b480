use Rattle.std.proofs.Common.{◌≡◌, ◌++◌, ◌+◌, ◌-◌}
use Rattle.std.specs.List.{flat_map, range_with_len}
use Rattle.trace_semantics.specs.Trace.{operation_count}
use Rattle.var_layout.specs.OrderVariables.{numbers_above}
use Rattle.clause_blocks.specs.Blocks.{no_cycle}
use Rattle.clause_blocks.proofs.transitivity.push_transitivity_from.Given as goal

abbrev pub invariant-loop-j : goal.invariant-loop-j
invariant-loop-j l = l.clauses.items ≡ l.initial.clauses.items ++ flat_map (λ j. flat_map (λ k. no_cycle (operation_count l.layout) l.i j k) (numbers_above (operation_count l.layout) j)) (range_with_len (l.i + 1) (l.j - (l.i + 1)))
