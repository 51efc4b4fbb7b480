use Rattle.std.proofs.Common.{◌≡◌, ◌∷◌, [], ◌++◌, length, map, sym, ◌∙◌, ap, append_assoc, rules, arith}
use Rattle.std.proofs.lemmas.List.{length-map}
use Rattle.std.specs.Vec.Iter.{into_iter_items}
use Rattle.job_board.specs.Seats.{taken_by, given_by}
use Rattle.job_board.proofs.CloseLemmas.{next_seat, all_seats, none_joined, one_joined}
use Rattle.job_board.proofs.board.Board.join_all.Goals as goal

pub join-requires-clause-seat : goal.join-requires-clause-seat
join-requires-clause-seat g c =
    let at = c.loop-seat in
    let is = at.invariant.2 ∙ ap (λ l. at.yielded ++ l) c.in-Some.ensures.steps.0 in
    (c.requires.workers.each (length at.yielded) c.in-Some.seat (next_seat _ at.yielded _ _ is)).0

pub join-requires-clause-jobs : goal.join-requires-clause-jobs
join-requires-clause-jobs g c =
    let at = c.loop-seat in
    let is = at.invariant.2 ∙ ap (λ l. at.yielded ++ l) c.in-Some.ensures.steps.0 in
    let next = (c.requires.workers.each (length at.yielded) c.in-Some.seat (next_seat _ at.yielded _ _ is)).1 in
    (at.invariant.0, (_, map taken_by at.yielded, at.invariant.4.jobs_known, next ∙ sym (length-map at.yielded taken_by)))

pub join-requires-clause-results : goal.join-requires-clause-results
join-requires-clause-results g c =
    let at = c.loop-seat in
    let is = at.invariant.2 ∙ ap (λ l. at.yielded ++ l) c.in-Some.ensures.steps.0 in
    let next = (c.requires.workers.each (length at.yielded) c.in-Some.seat (next_seat _ at.yielded _ _ is)).1 in
    (at.invariant.1, (_, map given_by at.yielded, at.invariant.4.results_known, next ∙ sym (length-map at.yielded given_by)))

pub loop-seat-preserved : goal.loop-seat-preserved
loop-seat-preserved g c =
    let at = c.loop-seat in
    let is = at.invariant.2 ∙ ap (λ l. at.yielded ++ l) c.in-Some.ensures.steps.0 in
    let here = (c.requires.workers.each (length at.yielded) c.in-Some.seat (next_seat _ at.yielded _ _ is)).0 in
    let was = at.invariant.3 in
    let gone = c.in-Some.ensures.steps.1 in
    let short = ap length c.in-Some.ensures.steps.0 in (
      c.join.ensures.jobs.0,
      c.join.ensures.results.0,
      is ∙ sym (append_assoc at.yielded (c.in-Some.seat ∷ []) _),
      omega arith,
      one_joined _ _ _ _ _ _ _ _ _ _ _ _ _ _ at.invariant.4 here.same c.join.ensures.jobs.1 c.join.ensures.results.1 c.added-taken.ensures c.added-given.ensures,
    )

pub loop-seat-init : goal.loop-seat-init
loop-seat-init g c =
    let began = c.into_iter-seat-iterator.ensures.into_iter_gives in (
      c.requires.jobs.0,
      c.requires.results.0,
      sym began.0,
      search rules,
      none_joined _ _ _ _ _ _ c.requires.jobs.1 c.requires.results.1,
    )

pub returns-clause-joined : goal.returns-clause-joined
returns-clause-joined g c =
    let at = c.loop-seat in
    let none : length (into_iter_items at.seat-iterator) ≡ 0 = sym at.invariant.3 ∙ c.in-None.ensures.steps.0 in
    rw (← all_seats _ at.yielded _ at.invariant.2 none) at.invariant.4
