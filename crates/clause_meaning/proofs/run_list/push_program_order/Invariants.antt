use Rattle.std.proofs.Common.{◌≡◌, ◌++◌, ◌+◌, map}
use Rattle.std.specs.List.{filter, range_with_len}
use Rattle.var_layout.specs.Numbers.{in_one_process}
use Rattle.clause_meaning.specs.declared.run.ClauseRun.TheVariants as run
use Rattle.clause_meaning.proofs.run_list.push_program_order.Given as goal

abbrev pub invariant-loop-i : goal.invariant-loop-i
invariant-loop-i l = l.runs.items ≡ l.initial.runs.items ++ map (λ i. run.ProgramOrder i) (filter (λ i. in_one_process l.layout i (i + 1)) (range_with_len 0 l.i))
