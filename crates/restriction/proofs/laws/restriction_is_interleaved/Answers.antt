use Rattle.restriction.proofs.RestrictLemmas.{restriction_interleaves}
use Rattle.restriction.proofs.laws.restriction_is_interleaved.Goals as goal

pub returns : goal.returns
returns c t q stays names ok made pairs spans given = restriction_interleaves t q ok stays made names given pairs spans
