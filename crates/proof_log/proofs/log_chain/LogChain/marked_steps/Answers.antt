use Rattle.std.proofs.Common.{arith}
use Rattle.std.proofs.lemmas.List.Sums.{sum_by_more}
use Rattle.proof_log.proofs.log_chain.LogChain.marked_steps.Goals as goal

pub loop-log-preserved : goal.loop-log-preserved
loop-log-preserved c = grind (arith, sum_by_more, c.in_ok-push_marked.ensures, c.loop-log.invariant)
