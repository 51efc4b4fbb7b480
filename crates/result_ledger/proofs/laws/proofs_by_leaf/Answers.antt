use Rattle.result_ledger.proofs.DerivationLemmas.{proofs_by_leaf}
use Rattle.result_ledger.proofs.laws.proofs_by_leaf.Goals as goal

pub returns : goal.returns
returns c = proofs_by_leaf
