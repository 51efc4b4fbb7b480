use Rattle.std.proofs.Common.{take}
use Rattle.cube_queue.specs.Participants.{AreJobsOf}
use Rattle.cube_queue.proofs.leaf_jobs.jobs_of.Given as goal

abbrev pub invariant-loop-leaf : goal.invariant-loop-leaf
invariant-loop-leaf l = AreJobsOf l.cubes (take l.leaf-index l.which) l.jobs.items
