use Rattle.std.proofs.Common.{◌++◌, ◌∙◌, ap}
use Rattle.cube_queue.proofs.CountLemmas.{put_fewer}
use Rattle.cube_queue.proofs.JobsPut.PutLemmas.{next_above, put_low}
use Rattle.cube_queue.proofs.putting.put_jobs.Goals as goal

pub put-requires-clause-above : goal.put-requires-clause-above
put-requires-clause-above g c =
    let at = c.loop-job in
    next_above c.args.jobs.items at.yielded _ _ c.in-Some.job c.requires.rising (at.invariant.2 ∙ ap (λ l. at.yielded ++ l) c.in-Some.ensures.steps.0) at.invariant.1

pub returns-in-Err-clause-low : goal.returns-in-Err-clause-low
returns-in-Err-clause-low g c =
    let at = c.loop-job in
    put_low c.args.board.now.cubes c.args.jobs.items at.yielded _ _ c.requires.low at.invariant.2 (c.in-Err.ensures.back.1 ∙ at.invariant.1)

pub returns-in-Err-clause-fewer : goal.returns-in-Err-clause-fewer
returns-in-Err-clause-fewer g c =
    let at = c.loop-job in
    λ none. put_fewer c.args.jobs.items at.yielded _ _ c.in-Some.job (at.invariant.2 ∙ ap (λ l. at.yielded ++ l) c.in-Some.ensures.steps.0) (c.in-Err.ensures.back.1 ∙ at.invariant.1)
