use Rattle.restriction.specs.Left.{new_name}
use Rattle.restriction.proofs.LeftLemmas.{known_old}
use Rattle.reducer.specs.Reduction.{kept_op}
use Rattle.reducer.proofs.KeptTrace.KeptLemmas.{first_operation}
use Rattle.reducer.proofs.laws.kept_has_its_new_name.Goals as goal

pub returns : goal.returns
returns c t n ok known kept = first_operation t ok (new_name (kept_op t) n) n (known_old t ok (kept_op t) n known kept)
