use Rattle.std.proofs.Common.{ap, ◌∙◌, ◌++◌}
use Rattle.clause_blocks.proofs.InPieces.StepLemmas.{flat_more}
use Rattle.clause_meaning.specs.Runs.{runs_of_final}
use Rattle.clause_meaning.proofs.run_list.push_final_values.Goals as goal

pub loop-k-preserved : goal.loop-k-preserved
loop-k-preserved c =
    let t = c.args.layout.now in
    c.in_ok-push_runs_of_final.ensures ∙ ap (λ l. l ++ runs_of_final t c.loop-k.k) c.loop-k.invariant
    ∙ flat_more (runs_of_final t) c.args.runs.now.items c.loop-k.k
