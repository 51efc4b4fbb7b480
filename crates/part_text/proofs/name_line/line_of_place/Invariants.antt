use Rattle.std.proofs.Common.{length}
use Rattle.part_text.proofs.NameLineLemmas.{IsCounted}
use Rattle.part_text.proofs.name_line.line_of_place.Given as goal

abbrev pub invariant-loop-line : goal.invariant-loop-line
invariant-loop-line l = IsCounted l.text l.place l.number l.said l.rest

abbrev pub decreases-loop-line : goal.decreases-loop-line
decreases-loop-line l = length l.rest
