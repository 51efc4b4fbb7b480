use Rattle.std.proofs.Common.{take}
use Rattle.lrat_check.specs.Active.{numbered}
use Rattle.lrat_check.specs.Counts.{AreLiteralCounts}
use Rattle.lrat_check.proofs.formula_counts.counts_of.Given as goal

abbrev pub invariant-loop-place : goal.invariant-loop-place
invariant-loop-place g l = AreLiteralCounts (numbered (take l.place (g.F.ClauseList.formula l.formula).clauses)) l.counts
