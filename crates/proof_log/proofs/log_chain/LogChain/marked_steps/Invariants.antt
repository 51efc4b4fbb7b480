use Rattle.std.proofs.Common.{◌≤◌, vec_len, take, sum}
use Rattle.proof_log.proofs.log_chain.LogChain.marked_steps.Given as goal

-- no step without an addition of the logs so far
abbrev pub invariant-loop-log : goal.invariant-loop-log
invariant-loop-log l = vec_len l.steps ≤ sum (take l.log-index l.self-inside.logs.items)
