use Rattle.restriction.proofs.LeftLemmas.{has_old, old_known}
use Rattle.restriction.proofs.laws.new_is_of_old.Goals as goal

pub returns : goal.returns
returns c t q stays x ok made h = let old = has_old t q ok stays made x h in let at = old_known t ok stays x old.0 old.1 in (old.0, at.known, at.left, at.renamed)
