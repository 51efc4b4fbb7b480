use Rattle.std.proofs.Common.{length, neg_ℤ}
use Rattle.std.specs.BTreeSet.{contains}
use Rattle.std.specs.Ordering.{nat_cmp}
use Rattle.lrat_check.specs.ClauseAt.{clause_at}
use Rattle.lrat_check.specs.Counts.{IsCount}
use Rattle.lrat_check.specs.Hints.{groups_of}
use Rattle.lrat_check.proofs.Justifying.GroupLemmas.{ArePassed}
use Rattle.lrat_check.proofs.groups.has_all.Given as goal

abbrev pub invariant-loop-id : goal.invariant-loop-id
invariant-loop-id g l =
    let active = clause_at (g.F.ClauseList.formula l.formula).clauses l.active in
    IsCount active (neg_ℤ l.fn.pivot) l.count → ArePassed active (neg_ℤ l.fn.pivot) (groups_of l.hints) (groups_of l.rest) (contains nat_cmp l.seen) l.left

abbrev pub decreases-loop-id : goal.decreases-loop-id
decreases-loop-id g l = length l.rest
