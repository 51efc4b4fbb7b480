use Rattle.part_law.proofs.AgreedLemmas.{same_part}
use Rattle.part_law.proofs.laws.orders_that_agree_make_one_part.Goals as goal

pub returns : goal.returns
returns c t first second chosen ok agree = same_part t ok first second agree chosen
