use Rattle.std.proofs.Common.{sym, ◌∙◌}
use Rattle.cube_queue.proofs.Workers.HandleLemmas.{kept_all}
use Rattle.cube_queue.proofs.joining.join_all.Goals as goal

pub returns : goal.returns
returns g c =
    let all = c.in_ok-members in
    kept_all _ _ _ _ c.args.handles.ok.0 (sym all.members.ok.0 ∙ all.ensures.len) all.ensures.each
