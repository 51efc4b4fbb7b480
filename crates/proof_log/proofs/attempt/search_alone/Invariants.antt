use Rattle.std.proofs.Common.{◌≤◌, ◌+◌}
use Rattle.proof_log.proofs.attempt.search_alone.Given as goal

-- each addition has taken a conflict of the budget
abbrev pub invariant-loop-answer : goal.invariant-loop-answer
invariant-loop-answer g l = l.attempt.log + l.left ≤ l.fn.attempt.log + l.fn.budget

abbrev pub decreases-loop-answer : goal.decreases-loop-answer
decreases-loop-answer g l = l.left
