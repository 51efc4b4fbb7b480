use Rattle.std.proofs.Common.{◌≡◌, length, take}
use Rattle.lrat_check.specs.ClauseAt.{clause_at}
use Rattle.lrat_check.specs.Hints.{groups_of}
use Rattle.lrat_check.proofs.Justifying.GroupLemmas.{AreOnTheWay}
use Rattle.lrat_check.proofs.groups.check_candidates.Given as goal

abbrev pub invariant-loop-id : goal.invariant-loop-id
invariant-loop-id g l =
    (take l.count l.trues ≡ l.initial.trues)
    × AreOnTheWay (clause_at (g.F.ClauseList.formula l.formula).clauses l.active) l.pivot l.initial.trues (groups_of l.hints) (groups_of l.rest)

abbrev pub decreases-loop-id : goal.decreases-loop-id
decreases-loop-id g l = length l.rest
