use Rattle.restriction.proofs.WriterLemmas.{same_after}
use Rattle.restriction.proofs.laws.same_after_restriction.Goals as goal

pub returns : goal.returns
returns c = record {
  value = λ t q stays location names ok made initial alike left. (same_after t q ok stays made initial alike location names left).0;
  writer = λ t q stays location names ok made initial alike left. (same_after t q ok stays made initial alike location names left).1;
}
