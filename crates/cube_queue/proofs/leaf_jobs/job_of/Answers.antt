use Rattle.std.proofs.Common.{◌≡◌, Some, length, refl, sym, ◌∙◌, ap}
use Rattle.std.specs.List.{slice_get}
use Rattle.std.proofs.lemmas.Option.{slice_get_read}
use Rattle.cube_queue.proofs.leaf_jobs.job_of.Goals as goal

pub returns-clause-cube : goal.returns-clause-cube
returns-clause-cube c =
    let there : slice_get c.args.cubes.now c.args.leaf ≡ Some c.index-cubes-leaf.result = slice_get_read c.args.cubes.now (length c.args.cubes.now) c.args.leaf c.index-cubes-leaf.result refl c.requires c.index-cubes-leaf.is in
    there ∙ ap Some (sym (c.new.ensures.cube ∙ c.as_slice.ensures.literals))
