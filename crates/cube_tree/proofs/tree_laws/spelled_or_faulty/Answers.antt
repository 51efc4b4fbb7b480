use Rattle.cube_tree.proofs.TextLawLemmas.{spelled_or_refused}
use Rattle.cube_tree.proofs.tree_laws.spelled_or_faulty.Goals as goal

pub returns : goal.returns
returns c = spelled_or_refused
