use Rattle.std.proofs.Common.{rules, arith}
use Rattle.std.proofs.lemmas.List.FromFn.{map-range_with_len_more}
use Rattle.dimacs.specs.CnfText.{variable_text}
use Rattle.dimacs.proofs.variable_table.variable_texts.Goals as goal

pub loop-variable-preserved : goal.loop-variable-preserved
loop-variable-preserved c = let h = c.push.ensures.items in search (rules, c.loop-variable.invariant, map-range_with_len_more variable_text 0 c.loop-variable.variable c.loop-variable.variable (omega arith))
