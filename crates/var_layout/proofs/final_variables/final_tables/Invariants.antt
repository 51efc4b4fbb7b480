use Rattle.std.proofs.Common.{◌≡◌, map}
use Rattle.std.specs.List.{range_with_len}
use Rattle.var_layout.specs.FinalVariables.{first_final}
use Rattle.var_layout.specs.Tables.{final_table}
use Rattle.var_layout.proofs.final_variables.final_tables.Given as goal

abbrev pub invariant-loop-k : goal.invariant-loop-k
invariant-loop-k l = record {
  tables : l.made.items ≡ map (final_table l.trace) (range_with_len 0 l.k);
  next : l.next ≡ first_final l.trace l.k;
}
