use Rattle.std.proofs.Common.{length, map}
use Rattle.text_lines.specs.Words.{words_of}
use Rattle.lrat_check.specs.LratRead.{BeginsWith}
use Rattle.lrat_check.proofs.lrat_reader.read_list.Given as goal

abbrev pub invariant-loop-word : goal.invariant-loop-word
invariant-loop-word g l = BeginsWith g.N.ListedNumber.fault g.N.ListedNumber.passes (words_of l.line) (map g.N.ListedNumber.number l.numbers.items) (words_of l.rest)

abbrev pub decreases-loop-word : goal.decreases-loop-word
decreases-loop-word g l = length l.rest
