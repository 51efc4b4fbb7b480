use Rattle.std.proofs.Common.{arith}
use Rattle.cube_queue.proofs.JobsPut.LeafLemmas.{leaf_low, one_job}
use Rattle.cube_queue.proofs.leaf_jobs.jobs_of.Goals as goal

pub job_of-requires : goal.job_of-requires
job_of-requires c = leaf_low c.args.cubes.now c.args.which.now c.loop-leaf.leaf-index c.requires (omega arith)

pub loop-leaf-preserved : goal.loop-leaf-preserved
loop-leaf-preserved c =
    rw c.in_ok-push.ensures.items
    (one_job c.args.cubes.now c.args.which.now c.loop-leaf.leaf-index c.loop-leaf.jobs.items c.job_of.result c.loop-leaf.invariant (omega arith) c.job_of.ensures.ticket c.job_of.ensures.cube)
