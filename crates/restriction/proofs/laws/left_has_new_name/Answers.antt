use Rattle.restriction.proofs.LeftLemmas.{new_operation}
use Rattle.restriction.proofs.laws.left_has_new_name.Goals as goal

pub returns : goal.returns
returns c t q stays n ok made known left = new_operation t q ok stays made n known left
