use Rattle.std.proofs.Common.{arith}
use Rattle.dimacs.proofs.DigitLemmas.{decimal_behind_four}
use Rattle.dimacs.proofs.line_buffer.put_number.Goals as goal

pub returns-clause-written : goal.returns-clause-written
returns-clause-written c = rw (c.put_pair.ensures.written, c.put_pair-end.ensures.written, c.put_short-end.ensures.written) (decimal_behind_four _ c.args.number c.if-number-lt10000.false (omega (arith, c.requires.small)))
