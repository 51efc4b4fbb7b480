use Rattle.std.proofs.Common.{◌≡◌, ◌++◌}
use Rattle.std.specs.List.{flat_map, range_with_len}
use Rattle.clause_meaning.specs.Runs.{runs_of_final}
use Rattle.clause_meaning.proofs.run_list.push_final_values.Given as goal

abbrev pub invariant-loop-k : goal.invariant-loop-k
invariant-loop-k l = l.runs.items ≡ l.initial.runs.items ++ flat_map (runs_of_final l.layout) (range_with_len 0 l.k)
