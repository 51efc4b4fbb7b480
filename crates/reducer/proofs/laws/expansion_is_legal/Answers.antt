use Rattle.reducer.proofs.DroppedReads.ScheduleLemmas.{expansion_legal}
use Rattle.reducer.proofs.laws.expansion_is_legal.Goals as goal

pub returns : goal.returns
returns c = expansion_legal
