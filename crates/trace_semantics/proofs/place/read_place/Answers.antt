use Rattle.std.proofs.Common.{arith}
use Rattle.trace_semantics.proofs.WrittenLemmas.{number_written}
use Rattle.trace_semantics.proofs.place.read_place.Goals as goal

pub returns-in-Some-clause-written : goal.returns-in-Some-clause-written
returns-in-Some-clause-written c = (number_written 4294967295 c.args.word.now c.in-Some.place (omega arith) c.in-Some.ensures).0
