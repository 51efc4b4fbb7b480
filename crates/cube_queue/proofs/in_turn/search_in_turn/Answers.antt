use Rattle.std.proofs.Common.{◌≡◌, ◌∙◌, List, ℤ, Some, get_or, take, sym, subst, arith}
use Rattle.std.specs.List.{slice_get}
use Rattle.cube_tree.specs.CubeTree.{cubes_of}
use Rattle.cube_queue.proofs.JobsPut.LeafLemmas.{leaf_low}
use Rattle.cube_queue.proofs.AllResults.ResultLemmas.{looked_at, one_more, all_settled}
use Rattle.cube_queue.proofs.in_turn.search_in_turn.Goals as goal

pub job_of-job-requires : goal.job_of-job-requires
job_of-job-requires g c =
    let cubes_are : c.as_slice-in-loop-leaf.result.now ≡ cubes_of c.args.tree.now = c.as_slice-in-loop-leaf.ensures.value ∙ c.in_ok-cubes.ensures in
    rw cubes_are (leaf_low (cubes_of c.args.tree.now) c.args.which.now c.loop-leaf.leaf-index c.requires (omega arith))

pub loop-leaf-preserved : goal.loop-leaf-preserved
loop-leaf-preserved g c =
    let cubes_are : c.as_slice-in-loop-leaf.result.now ≡ cubes_of c.args.tree.now = c.as_slice-in-loop-leaf.ensures.value ∙ c.in_ok-cubes.ensures in
    let there : slice_get (cubes_of c.args.tree.now) (get_or c.args.which.now c.loop-leaf.leaf-index 0) ≡ Some c.job_of-job.result.cube =
    subst (λ (cubes : List (List ℤ)). slice_get cubes (get_or c.args.which.now c.loop-leaf.leaf-index 0) ≡ Some c.job_of-job.result.cube) cubes_are c.job_of-job.ensures.cube in
    let so = looked_at (g.L.ClauseList.formula c.args.settler.now.formula.now).clauses (cubes_of c.args.tree.now) (take c.loop-leaf.leaf-index c.args.which.now) c.loop-leaf.results.items c.loop-leaf.has_model c.knows_model-has_model.result
    c.loop-leaf.invariant (rw (sym c.as_slice.ensures.value) c.knows_model-has_model.ensures) in
    rw c.in_ok-push.ensures.items
    (one_more (g.L.ClauseList.formula c.args.settler.now.formula.now).clauses (cubes_of c.args.tree.now) c.args.which.now c.loop-leaf.leaf-index c.loop-leaf.results.items c.knows_model-has_model.result
    c.requires so (omega arith) c.settle-settled.result c.job_of-job.result.cube
    (c.settle-settled.ensures.ticket ∙ c.job_of-job.ensures.ticket) there c.settle-settled.ensures.cube c.settle-settled.ensures.skipped)

pub returns : goal.returns
returns g c = all_settled (g.L.ClauseList.formula c.args.settler.now.formula.now).clauses (cubes_of c.args.tree.now) c.args.which.now c.loop-leaf.leaf-index c.loop-leaf.results.items c.loop-leaf.has_model c.requires (omega arith) c.loop-leaf.invariant
