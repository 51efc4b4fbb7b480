use Rattle.part_law.proofs.PartLemmas.{restriction_legal}
use Rattle.part_law.proofs.laws.restriction_is_legal.Goals as goal

pub returns : goal.returns
returns c t ordered chosen names ok legal obeyed = restriction_legal t ok ordered chosen names legal obeyed
