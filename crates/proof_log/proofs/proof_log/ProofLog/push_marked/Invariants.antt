use Rattle.std.proofs.Common.{◌≤◌, ◌+◌, vec_len}
use Rattle.proof_log.proofs.proof_log.ProofLog.push_marked.Given as goal

-- no further step without an addition
abbrev pub invariant-loop-place : goal.invariant-loop-place
invariant-loop-place l = vec_len l.steps ≤ vec_len l.fn.steps + l.place
