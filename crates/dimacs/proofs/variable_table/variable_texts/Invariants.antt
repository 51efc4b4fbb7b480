use Rattle.std.proofs.Common.{◌≡◌, map}
use Rattle.std.specs.List.{range_with_len}
use Rattle.dimacs.specs.CnfText.{variable_text}
use Rattle.dimacs.proofs.variable_table.variable_texts.Given as goal

abbrev pub invariant-loop-variable : goal.invariant-loop-variable
invariant-loop-variable l = l.texts.items ≡ map variable_text (range_with_len 0 l.variable)
