use Rattle.std.proofs.Common.{◌≤◌, ◌+◌}
use Rattle.proof_log.proofs.attempt.take_turns.Given as goal

-- each addition of the one or the other has taken a conflict of the budget
abbrev pub invariant-loop-budget : goal.invariant-loop-budget
invariant-loop-budget g l = l.first.log + l.second.log + l.left ≤ l.fn.first.log + l.fn.second.log + l.fn.budget

abbrev pub decreases-loop-budget : goal.decreases-loop-budget
decreases-loop-budget g l = l.left
