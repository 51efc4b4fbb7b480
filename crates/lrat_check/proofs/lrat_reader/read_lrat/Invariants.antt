use Rattle.std.proofs.Common.{length}
use Rattle.lrat_check.proofs.DerivationText.DerivationTextLemmas.{IsReadSoFar}
use Rattle.lrat_check.proofs.lrat_reader.read_lrat.Given as goal

abbrev pub invariant-loop-line : goal.invariant-loop-line
invariant-loop-line l = IsReadSoFar l.text l.number l.rest l.steps.items

abbrev pub decreases-loop-line : goal.decreases-loop-line
decreases-loop-line l = length l.rest
