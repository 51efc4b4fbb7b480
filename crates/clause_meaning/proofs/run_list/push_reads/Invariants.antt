use Rattle.std.proofs.Common.{◌≡◌, ◌++◌}
use Rattle.std.specs.List.{filter, flat_map, range_with_len}
use Rattle.std.specs.Prelude.{is_some}
use Rattle.var_layout.specs.Numbers.{read_at}
use Rattle.clause_meaning.specs.Runs.{runs_of_read}
use Rattle.clause_meaning.proofs.run_list.push_reads.Given as goal

abbrev pub invariant-loop-r : goal.invariant-loop-r
invariant-loop-r l = l.runs.items ≡ l.initial.runs.items ++ flat_map (runs_of_read l.layout) (filter (λ i. is_some (read_at l.layout i)) (range_with_len 0 l.r))
