use Rattle.std.proofs.Common.{◌∙◌, arith}
use Rattle.std.proofs.lemmas.List.{take_more_set}
use Rattle.dimacs.proofs.DigitLemmas.{decimal_one, decimal_two}
use Rattle.dimacs.proofs.line_buffer.put_first.Goals as goal

pub returns-then-number-ge10-clause-written : goal.returns-then-number-ge10-clause-written
returns-then-number-ge10-clause-written c = c.put_pair.ensures.written ∙ decimal_two _ c.args.number c.if-number-ge10.true c.requires.small

pub returns-clause-written : goal.returns-clause-written
returns-clause-written c = take_more_set _ c.args.at _ (omega (arith, c.requires.room)) ∙ decimal_one _ c.args.number c.if-number-ge10.false
