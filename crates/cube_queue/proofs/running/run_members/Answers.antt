use Rattle.std.proofs.Common.{◌∙◌, rules}
use Rattle.std.proofs.lemmas.Result.{err_from_is_err_and}
use Rattle.cube_queue.proofs.Workers.FaultLemmas.{not_started, not_put, not_gathered, only_stops}
use Rattle.cube_queue.proofs.Workers.JoinLemmas.{worked_zip}
use Rattle.cube_queue.proofs.running.run_members.Goals as goal

pub returns-clause-returned : goal.returns-clause-returned
returns-clause-returned g c = record {
  dealer_at = c.deal.ensures.seat;
  dealt = search rules;
  collector_at = c.gather_all.ensures.seat;
  results_are = c.in_ok-results.ensures.results;
  all_gathered = c.in_ok-results.ensures.all ∙ c.len-count.ensures ∙ c.args.crew.jobs.ok.0;
  worked = worked_zip g.S.Settler.clauses (λ h. h.promise.settler.value) (λ h. h.promise.site.value) (λ h. h.promise.member.value) c.args.settler.now c.args.site.now c.in-Ok.handles.items _ _ (search rules) (search rules) (search rules) c.in_ok-members.ensures;
}

pub returns-in-Err-clause-fault : goal.returns-in-Err-clause-fault
returns-in-Err-clause-fault g c =
    not_started c.args.site.now.board c.args.crew.jobs.items _ c.in-Err.ensures.refused
    (record {
      dealer = c.put_stops.new.seat;
      dealer_at = c.put_stops.ensures.seat;
      stops = only_stops _ _ _ c.put_stops.ensures.put c.requires.none_put;
    })

pub returns-then-not-deal-clause-fault : goal.returns-then-not-deal-clause-fault
returns-then-not-deal-clause-fault g c =
    not_put c.args.site.now.board c.args.crew.jobs.items c.deal.new.seat c.deal.ensures.seat (c.deal.ensures.fewer (search rules))

pub returns-in_err-results-clause-fault : goal.returns-in_err-results-clause-fault
returns-in_err-results-clause-fault g c =
    let p = err_from_is_err_and c.from_residual.result c.from_residual.ensures.1 in
    rw (p.1, p.2)
    (not_gathered c.args.site.now.board c.args.crew.jobs.items _ c.deal.new.seat c.gather_all.new.seat c.len-count.result c.in_err-results.ensures.fault
    (c.len-count.ensures ∙ c.args.crew.jobs.ok.0) c.deal.ensures.seat (search rules) c.gather_all.ensures.seat)
