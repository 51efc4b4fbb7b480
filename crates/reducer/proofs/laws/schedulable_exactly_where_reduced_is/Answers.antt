use Rattle.reducer.specs.Expansion.{expansion}
use Rattle.reducer.proofs.DroppedReads.InterleavingLemmas.{reduced}
use Rattle.reducer.proofs.DroppedReads.ScheduleLemmas.{expansion_legal, reduction_legal}
use Rattle.reducer.proofs.laws.schedulable_exactly_where_reduced_is.Goals as goal

pub returns : goal.returns
returns c t ok = ((λ s. (expansion t s.0, expansion_legal t s.0 ok s.1)), (λ s. (reduced t s.0, reduction_legal t s.0 ok s.1)))
