use Rattle.std.proofs.Common.{◌≤◌, ◌+◌}
use Rattle.proof_log.proofs.searching.search_on.Given as goal

-- each addition has taken a conflict of the budget
abbrev pub invariant-loop-left : goal.invariant-loop-left
invariant-loop-left g l = (l.log + l.left ≤ l.fn.log + l.fn.budget) × (l.left ≤ l.fn.budget)

abbrev pub decreases-loop-left : goal.decreases-loop-left
decreases-loop-left g l = l.left
