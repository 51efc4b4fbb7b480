use Rattle.restriction.specs.Left.{restricted}
use Rattle.part_law.specs.Part.{stays}
use Rattle.part_law.proofs.PartLemmas.{restriction_legal}
use Rattle.part_law.proofs.laws.unschedulable_where_a_part_is.Goals as goal

pub returns : goal.returns
returns c t ordered chosen ok obeyed none names legal = none (restricted (stays t ordered chosen) names) (restriction_legal t ok ordered chosen names legal (obeyed names legal))
