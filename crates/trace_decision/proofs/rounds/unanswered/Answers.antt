use Rattle.std.proofs.Common.{ℤ, List, subst}
use Rattle.std.specs.Prelude.{IfOk}
use Rattle.cube_jobs.specs.Results.{AreLeaves}
use Rattle.trace_decision.proofs.rounds.unanswered.Goals as goal

pub returns-clause-asked : goal.returns-clause-asked
returns-clause-asked c = subst (λ (cubes : List (List ℤ)). IfOk c.unanswered.result (λ leaves. AreLeaves cubes leaves.items)) c.requires c.unanswered.ensures.asked
