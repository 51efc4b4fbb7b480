use Rattle.std.proofs.Common.{arith}
use Rattle.std.proofs.lemmas.Grind.{common_steps}
use Rattle.dimacs.proofs.DigitLemmas.{pairs_at}
use Rattle.dimacs.proofs.line_buffer.put_pair.Goals as goal

pub returns-clause-written : goal.returns-clause-written
returns-clause-written c =
    let both = pairs_at c.args.pair c.requires.small in
    grind (arith, common_steps, both.0, both.1)
