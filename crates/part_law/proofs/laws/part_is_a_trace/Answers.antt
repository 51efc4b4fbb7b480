use Rattle.part_law.proofs.TraceLemmas.{part_is_trace}
use Rattle.part_law.proofs.laws.part_is_a_trace.Goals as goal

pub returns : goal.returns
returns c t ordered chosen ok = part_is_trace t ok ordered chosen
