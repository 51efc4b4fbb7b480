use Rattle.std.proofs.Common.{◌≡◌, map}
use Rattle.std.specs.List.{range_with_len}
use Rattle.var_layout.specs.ChoiceVariables.{first_choice}
use Rattle.var_layout.specs.Tables.{op_table}
use Rattle.var_layout.proofs.choice_variables.op_tables.Given as goal

abbrev pub invariant-loop-i : goal.invariant-loop-i
invariant-loop-i l = record {
  tables : l.made.items ≡ map (op_table l.trace) (range_with_len 0 l.i);
  next : l.next ≡ first_choice l.trace l.i;
}
