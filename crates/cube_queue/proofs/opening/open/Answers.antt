use Rattle.std.proofs.Common.{◌≡◌, ℕ, suc, ◌<◌, ◌≤◌, List, [], ◌∷◌, Some, refl, sym, subst, arith}
use Rattle.std.specs.List.{All, AllPairs, slice_get}
use Rattle.std.proofs.lemmas.List.Elements.{All-nil, All-cons, All-head, All-tail}
use Rattle.cube_jobs.specs.declared.job.Job.{Job}
use Rattle.stop_word.specs.Seats.{SeatValue, KnowsNothing, AreAllSeats, known_by}
use Rattle.job_board.specs.declared.seats.WorkerSeat.{WorkerSeat}
use Rattle.job_board.specs.Seats.{put_by, gathered_by, IsDealerAt, IsCollectorAt, IsWorkerAt, IsIdle, AreWorkersAt}
use Rattle.cube_queue.specs.Participants.{IsCrewAt, seats_of, stops_of}
use Rattle.cube_queue.specs.Workers.{IsReady}
use Rattle.cube_queue.specs.declared.participants.Participants.{Participants}
use Rattle.cube_queue.specs.declared.participants.Worker.{Worker}
use Rattle.cube_queue.specs.declared.shared_search.SharedSearch.{SharedSearch}
use Rattle.cube_queue.proofs.opening.open.Goals as goal

-- Participants of a search, with seats that were just made.

module _ (site : SharedSearch) where
  each_ready : (members : List Worker) → ((number : ℕ) (seat : WorkerSeat) → slice_get (seats_of members) number ≡ Some seat → IsWorkerAt site.board seat) → All IsIdle (seats_of members) →
      All (λ (s : SeatValue). s.word ≡ site.word) (stops_of members) → All KnowsNothing (known_by (stops_of members)) → All (IsReady site) members
  each_ready [] at idle word new = All-nil (IsReady site)
  each_ready (m ∷ members) at idle word new =
      All-cons
      (IsReady site)
      m
      members
      (record {
        at = at 0 m.seat refl;
        idle = All-head IsIdle m.seat (seats_of members) idle;
        word_is = All-head (λ (s : SeatValue). s.word ≡ site.word) m.stop (stops_of members) word;
        new = All-head KnowsNothing m.stop.knows (known_by (stops_of members)) new;
      })
      (each_ready
      members
      (λ number seat is. at (suc number) seat is)
      (All-tail IsIdle m.seat (seats_of members) idle)
      (All-tail (λ (s : SeatValue). s.word ≡ site.word) m.stop (stops_of members) word)
      (All-tail KnowsNothing m.stop.knows (known_by (stops_of members)) new))

  -- workers with seats that were just made are ready
  all_ready : (members : List Worker) → AreWorkersAt site.board (seats_of members) → All IsIdle (seats_of members) → AreAllSeats site.word (stops_of members) →
      All KnowsNothing (known_by (stops_of members)) → All (IsReady site) members
  all_ready members workers idle stops new = each_ready members (λ number seat is. (workers.each number seat is).0) idle stops.at_word new

-- the participants at a board and a stop word that were just opened
opened : (site : SharedSearch) (crew : Participants) (workers cubes : ℕ) (seats : List WorkerSeat) (stops : List SeatValue) → (site.board.workers ≡ workers) × (site.board.cubes ≡ cubes) →
    IsDealerAt site.board crew.dealer × (put_by crew.dealer ≡ []) → IsCollectorAt site.board crew.collector × (gathered_by crew.collector ≡ []) →
    AreWorkersAt site.board seats → All IsIdle seats → AreAllSeats site.word stops → All KnowsNothing (known_by stops) →
    seats_of crew.members.items ≡ seats → stops_of crew.members.items ≡ stops → workers ≤ 8 → cubes ≤ 1024 →
    AllPairs (λ (a b : Job). a.ticket < b.ticket) crew.jobs.items → All (λ (job : Job). job.ticket < cubes) crew.jobs.items → IsCrewAt site crew
opened site crew workers cubes seats stops board dealer collector at idle all new seats_are stops_are few_workers few_cubes rising low =
    let workers_at = subst (AreWorkersAt site.board) (sym seats_are) at in
    let stops_at = subst (AreAllSeats site.word) (sym stops_are) all in
    record {
      dealer_at = dealer.0;
      none_put = dealer.1;
      collector_at = collector.0;
      none_gathered = collector.1;
      few_cubes = omega (arith, board.1, few_cubes);
      few_workers = omega (arith, board.0, few_workers);
      rising = rising;
      low = subst (λ (n : ℕ). All (λ (job : Job). job.ticket < n) crew.jobs.items) (sym board.1) low;
      ready = all_ready site crew.members.items workers_at (subst (All IsIdle) (sym seats_are) idle) stops_at (subst (λ (ss : List SeatValue). All KnowsNothing (known_by ss)) (sym stops_are) new);
      workers_at = workers_at;
      stops_at = stops_at;
    }

pub returns-clause-crew : goal.returns-clause-crew
returns-clause-crew c = opened _ _ c.args.workers c.args.cubes c.in_ok-board.seats.items c.in_ok-word.stops.items c.in_ok-board.ensures.board c.in_ok-board.ensures.dealer c.in_ok-board.ensures.collector c.in_ok-board.ensures.workers c.in_ok-board.ensures.idle c.in_ok-word.ensures.all c.in_ok-word.ensures.new c.in_ok-members.ensures.seats c.in_ok-members.ensures.stops c.requires.workers.1 c.requires.cubes.1 c.requires.rising c.requires.low
