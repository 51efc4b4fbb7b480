use Rattle.std.proofs.Common.{arith}
use Rattle.dimacs.proofs.DigitLemmas.{decimal_behind}
use Rattle.dimacs.proofs.line_buffer.put_short.Goals as goal

pub returns-clause-written : goal.returns-clause-written
returns-clause-written c = rw (c.put_pair.ensures.written, c.put_first-end.ensures.written) (decimal_behind _ c.args.number c.if-number-lt100.false (omega (arith, c.requires.small)))
