use Rattle.result_ledger.proofs.SplitLemmas.{splits_cube}
use Rattle.result_ledger.proofs.laws.split_tree_splits_a_cube.Goals as goal

pub returns : goal.returns
returns c = splits_cube
