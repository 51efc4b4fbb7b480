use Rattle.std.proofs.Common.{rules}
use Rattle.dimacs.proofs.VariableLemmas.{short_text}
use Rattle.dimacs.proofs.variable_table.VariableText.of.Goals as goal

pub invariant_of-result : goal.invariant_of-result
invariant_of-result c = (short_text c.copy_from_slice.new.self c.put_number-end.new.buffer c.args.variable c.put_number-end.result c.requires c.put_number-end.ensures.written c.put_number-end.ensures.within (search rules) c.copy_from_slice.ensures.after).0

pub returns : goal.returns
returns c = (short_text c.copy_from_slice.new.self c.put_number-end.new.buffer c.args.variable c.put_number-end.result c.requires c.put_number-end.ensures.written c.put_number-end.ensures.within (search rules) c.copy_from_slice.ensures.after).1
