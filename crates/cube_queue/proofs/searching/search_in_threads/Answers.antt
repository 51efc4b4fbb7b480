use Rattle.std.proofs.Common.{◌≡◌, ◌<◌, ℤ, List, length, get_or, sym, ◌∙◌, ap, subst, arith}
use Rattle.cube_jobs.specs.declared.job.Job.{Job}
use Rattle.std.proofs.lemmas.Result.{err_from_is_err_and}
use Rattle.cube_tree.specs.CubeTree.{cubes_of}
use Rattle.cube_queue.specs.Participants.{AreJobsOf}
use Rattle.cube_queue.proofs.Workers.FaultLemmas.{fault_of}
use Rattle.cube_queue.proofs.JobsPut.JobLemmas.{jobs_rise, jobs_low}
use Rattle.cube_queue.proofs.Workers.JoinLemmas.{all_returned, honest_run}
use Rattle.cube_queue.proofs.JobsPut.LeafLemmas.{leaf_low}
use Rattle.cube_queue.proofs.searching.search_in_threads.Goals as goal

pub open-requires-clause-cubes : goal.open-requires-clause-cubes
open-requires-clause-cubes g c =
    let all : c.len.result ≡ length (cubes_of c.args.tree.now) = c.len.ensures ∙ c.in_ok-cubes.cubes.ok.0 ∙ ap length c.in_ok-cubes.ensures.cubes in
    let first : get_or c.args.which.now 0 0 < length (cubes_of c.args.tree.now) = leaf_low (cubes_of c.args.tree.now) c.args.which.now 0 c.requires.leaves (omega (arith, c.requires.workers.0, c.requires.used)) in
    (omega (arith, all, first), omega (arith, c.len.ensures, c.in_ok-cubes.cubes.ok.0, c.in_ok-cubes.ensures.few))

pub open-requires-clause-rising : goal.open-requires-clause-rising
open-requires-clause-rising g c =
    let cubes_are : c.as_slice.result.now ≡ cubes_of c.args.tree.now = c.as_slice.ensures.value ∙ c.in_ok-cubes.ensures.cubes in
    jobs_rise (cubes_of c.args.tree.now) c.args.which.now c.in_ok-jobs.jobs.items c.requires.leaves (subst (λ (cubes : List (List ℤ)). AreJobsOf cubes c.args.which.now c.in_ok-jobs.jobs.items) cubes_are c.in_ok-jobs.ensures)

pub open-requires-clause-low : goal.open-requires-clause-low
open-requires-clause-low g c =
    let cubes_are : c.as_slice.result.now ≡ cubes_of c.args.tree.now = c.as_slice.ensures.value ∙ c.in_ok-cubes.ensures.cubes in
    let all : c.len.result ≡ length (cubes_of c.args.tree.now) = c.len.ensures ∙ c.in_ok-cubes.cubes.ok.0 ∙ ap length c.in_ok-cubes.ensures.cubes in
    rw all
    (jobs_low (cubes_of c.args.tree.now) c.args.which.now c.in_ok-jobs.jobs.items c.requires.leaves (subst (λ (cubes : List (List ℤ)). AreJobsOf cubes c.args.which.now c.in_ok-jobs.jobs.items) cubes_are c.in_ok-jobs.ensures))

pub close-requires : goal.close-requires
close-requires g c =
    all_returned (g.L.ClauseList.formula c.args.settler.now.formula.now).clauses c.in_ok-site.site c.in_ok-site.crew c.in_ok-returned.returned c.in_ok-site.ensures.crew c.in_ok-returned.ensures.returned

pub returns-clause-results : goal.returns-clause-results
returns-clause-results g c =
    let clauses = (g.L.ClauseList.formula c.args.settler.now.formula.now).clauses in
    let cubes_are : c.as_slice.result.now ≡ cubes_of c.args.tree.now = c.as_slice.ensures.value ∙ c.in_ok-cubes.ensures.cubes in
    let all : c.len.result ≡ length (cubes_of c.args.tree.now) = c.len.ensures ∙ c.in_ok-cubes.cubes.ok.0 ∙ ap length c.in_ok-cubes.ensures.cubes in
    let jobs : AreJobsOf (cubes_of c.args.tree.now) c.args.which.now c.in_ok-jobs.jobs.items =
    subst (λ (cubes : List (List ℤ)). AreJobsOf cubes c.args.which.now c.in_ok-jobs.jobs.items) cubes_are c.in_ok-jobs.ensures in
    let dealt : AreJobsOf (cubes_of c.args.tree.now) c.args.which.now c.in_ok-site.crew.jobs.items =
    subst (λ (l : List Job). AreJobsOf (cubes_of c.args.tree.now) c.args.which.now l) (sym c.in_ok-site.ensures.jobs) jobs in
    c.in_ok-results.ensures clauses (cubes_of c.args.tree.now) c.args.which.now
    (honest_run clauses c.in_ok-site.site (cubes_of c.args.tree.now) c.args.which.now c.in_ok-site.crew c.in_ok-returned.returned
    c.requires.leaves dealt (c.in_ok-site.ensures.board.1 ∙ all) c.in_ok-site.ensures.crew c.in_ok-returned.ensures.returned)

pub returns-in_err-returned-clause-fault : goal.returns-in_err-returned-clause-fault
returns-in_err-returned-clause-fault g c =
    let cubes_are : c.as_slice.result.now ≡ cubes_of c.args.tree.now = c.as_slice.ensures.value ∙ c.in_ok-cubes.ensures.cubes in
    let all : c.len.result ≡ length (cubes_of c.args.tree.now) = c.len.ensures ∙ c.in_ok-cubes.cubes.ok.0 ∙ ap length c.in_ok-cubes.ensures.cubes in
    let jobs : AreJobsOf (cubes_of c.args.tree.now) c.args.which.now c.in_ok-jobs.jobs.items =
    subst (λ (cubes : List (List ℤ)). AreJobsOf cubes c.args.which.now c.in_ok-jobs.jobs.items) cubes_are c.in_ok-jobs.ensures in
    let dealt : AreJobsOf (cubes_of c.args.tree.now) c.args.which.now c.in_ok-site.crew.jobs.items =
    subst (λ (l : List Job). AreJobsOf (cubes_of c.args.tree.now) c.args.which.now l) (sym c.in_ok-site.ensures.jobs) jobs in
    let workers_are = c.in_ok-site.ensures.board.0 in
    let p = err_from_is_err_and c.from_residual-in_err-returned.result c.from_residual-in_err-returned.ensures.1 in
    rw (p.1, p.2)
    (fault_of c.args.workers (cubes_of c.args.tree.now) c.args.which.now c.in_ok-site.site.board c.in_ok-site.crew.jobs.items _
    (record {
      several = omega (arith, workers_are, c.requires.workers.0);
      few = omega (arith, workers_are);
      used = omega (arith, workers_are, c.requires.used);
      cubes_are = c.in_ok-site.ensures.board.1 ∙ all;
    })
    dealt c.in_err-returned.ensures.fault)
