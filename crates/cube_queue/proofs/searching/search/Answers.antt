use Rattle.std.proofs.Common.{◌≤◌, arith}
use Rattle.std.proofs.lemmas.Result.{IfErr-weaker}
use Rattle.cube_tree.specs.CubeTree.{cubes_of}
use Rattle.cube_queue.proofs.Workers.FaultLemmas.{fault_of_fewer}
use Rattle.cube_queue.proofs.searching.search.Goals as goal

pub returns-clause-fault : goal.returns-clause-fault
returns-clause-fault g c =
    let most : c.needed-workers.result ≤ c.args.options.now.workers = omega (arith, c.needed-workers.ensures.few, c.workers.ensures.workers) in
    IfErr-weaker c.search_in_threads.result _ _
    (λ fault wrong. fault_of_fewer c.needed-workers.result c.args.options.now.workers (cubes_of c.args.tree.now) c.args.which.now fault most wrong)
    c.search_in_threads.ensures.fault
