use Rattle.std.proofs.Common.{refl}
use Rattle.job_board.proofs.CloseLemmas.{were_dealt, were_gathered, account_is, given_low, all_equal, all_empty, all_answered, all_gathered}
use Rattle.job_board.proofs.board.Board.close.Goals as goal

pub returns-clause-numbers : goal.returns-clause-numbers
returns-clause-numbers g c = account_is _ _ _ _ _ _ _ _ c.join_all-taken.ensures.joined c.requires.dealer.same c.requires.collector.same refl refl

pub returns-clause-dealt : goal.returns-clause-dealt
returns-clause-dealt g c = were_dealt _ _ _ _ c.join_all-taken.ensures.joined.jobs_known c.requires.workers.all c.end_jobs.ensures

pub returns-clause-gathered : goal.returns-clause-gathered
returns-clause-gathered g c = were_gathered _ _ _ _ c.join_all-taken.ensures.joined.results_known c.requires.workers.all c.end_results.ensures

pub returns-clause-settled : goal.returns-clause-settled
returns-clause-settled g c =
    all_answered c.args.self.cubes c.args.dealer c.args.workers.items c.args.collector _
    (account_is _ _ c.args.dealer c.args.workers.items c.args.collector _ _ _ c.join_all-taken.ensures.joined c.requires.dealer.same c.requires.collector.same refl refl)
    (were_dealt _ _ _ _ c.join_all-taken.ensures.joined.jobs_known c.requires.workers.all c.end_jobs.ensures)
    (were_gathered _ _ _ _ c.join_all-taken.ensures.joined.results_known c.requires.workers.all c.end_results.ensures)
    (λ number seat at. (c.requires.workers.each number seat at).0.same)

pub returns-clause-whole : goal.returns-clause-whole
returns-clause-whole g c =
    all_gathered c.args.self.cubes c.args.dealer c.args.workers.items c.args.collector _
    (account_is _ _ c.args.dealer c.args.workers.items c.args.collector _ _ _ c.join_all-taken.ensures.joined c.requires.dealer.same c.requires.collector.same refl refl)
    (were_gathered _ _ _ _ c.join_all-taken.ensures.joined.results_known c.requires.workers.all c.end_results.ensures)
    (λ number seat at. (c.requires.workers.each number seat at).0.same)

pub returns-clause-low : goal.returns-clause-low
returns-clause-low g c =
    let gathered = were_gathered _ _ _ _ c.join_all-taken.ensures.joined.results_known c.requires.workers.all c.end_results.ensures in
    (given_low c.args.self.cubes _ gathered.0 c.args.workers.items gathered.1 (λ number seat at. (c.requires.workers.each number seat at).0.same)).0

pub returns-clause-complete : goal.returns-clause-complete
returns-clause-complete g c =
    all_equal c.args.self.cubes c.args.dealer c.args.workers.items c.args.collector _
    (account_is _ _ c.args.dealer c.args.workers.items c.args.collector _ _ _ c.join_all-taken.ensures.joined c.requires.dealer.same c.requires.collector.same refl refl)
    (were_dealt _ _ _ _ c.join_all-taken.ensures.joined.jobs_known c.requires.workers.all c.end_jobs.ensures)
    (were_gathered _ _ _ _ c.join_all-taken.ensures.joined.results_known c.requires.workers.all c.end_results.ensures)

pub returns-clause-hands : goal.returns-clause-hands
returns-clause-hands g c =
    all_empty c.args.self.cubes c.args.dealer c.args.workers.items c.args.collector _
    (account_is _ _ c.args.dealer c.args.workers.items c.args.collector _ _ _ c.join_all-taken.ensures.joined c.requires.dealer.same c.requires.collector.same refl refl)
    (λ number seat at. (c.requires.workers.each number seat at).0.same)
