-- What is known of all workers of a search once each of them has ended.
use Rattle.std.proofs.Common.{◌≡◌, ℕ, zero, suc, ℤ, List, [], ◌∷◌, map, length, Some, None, refl, sym, ◌∙◌, ap, subst, arith}
use Rattle.std.specs.List.{All, AllZip, slice_get}
use Rattle.std.proofs.lemmas.List.{length-map}
use Rattle.std.proofs.lemmas.List.Elements.{All-nil, All-cons, All-head, All-tail}
use Rattle.std.proofs.lemmas.Slice.Zip.{AllZip-long}
use Rattle.cube_jobs.specs.Results.{AreLeaves}
use Rattle.job_board.specs.declared.seats.WorkerSeat.{WorkerSeat}
use Rattle.job_board.specs.InFlight.{ticket_in}
use Rattle.job_board.specs.Seats.{put_by, given_by, IsWorkerAt, AreWorkersAt}
use Rattle.stop_word.specs.Seats.{SeatValue, known_by, AreAllSeats}
use Rattle.stop_word.specs.WordRule.{parts_in}
use Rattle.cube_queue.proofs.CountLemmas.{jobs_counted}
use Rattle.cube_queue.specs.Workers.{IsHonest, HasWorked}
use Rattle.cube_queue.specs.Participants.{seats_of, stops_of, AreJobsOf, IsCrewAt, HasRun, AreAllAt, IsHonestRun}
use Rattle.cube_queue.specs.declared.participants.Participants.{Participants}
use Rattle.cube_queue.specs.declared.participants.Worker.{Worker}
use Rattle.cube_queue.specs.declared.participants.Returned.{Returned}
use Rattle.cube_queue.specs.declared.shared_search.SharedSearch.{SharedSearch}

-- What each thread's handle was promised, where the handles are known by the workers that they were given.
module _
    {H F : Type 0} (clauses_of : F → List (List ℤ)) (formula_of : H → F) (site_of : H → SharedSearch) (member_of : H → Worker) (formula : F) (site : SharedSearch)
  where
    abbrev WorkedFor : H → Worker → Type 0
    WorkedFor handle after = HasWorked (clauses_of (formula_of handle)) (site_of handle) (member_of handle) after

    worked_here : (handle : H) (after : Worker) → site_of handle ≡ site → formula_of handle ≡ formula → WorkedFor handle after → HasWorked (clauses_of formula) site (member_of handle) after
    worked_here handle after same_site same_formula worked =
        subst (λ (s : SharedSearch). HasWorked (clauses_of formula) s (member_of handle) after) same_site (subst (λ (f : F). HasWorked (clauses_of f) (site_of handle) (member_of handle) after) same_formula worked)

    all_worked : (handles : List H) (after : List Worker) → All (λ (h : H). site_of h ≡ site) handles → All (λ (h : H). formula_of h ≡ formula) handles → AllZip WorkedFor handles after →
        AllZip (HasWorked (clauses_of formula) site) (map member_of handles) after
    all_worked [] [] sites formulas worked = tt
    all_worked [] (m ∷ after) sites formulas worked = elim worked [ ]
    all_worked (h ∷ handles) [] sites formulas worked = elim worked [ ]
    all_worked (h ∷ handles) (m ∷ after) sites formulas worked = (
      worked_here h m (All-head (λ (k : H). site_of k ≡ site) h handles sites) (All-head (λ (k : H). formula_of k ≡ formula) h handles formulas) worked.0,
      all_worked handles after (All-tail (λ (k : H). site_of k ≡ site) h handles sites) (All-tail (λ (k : H). formula_of k ≡ formula) h handles formulas) worked.1,
    )

    -- each worker has worked
    pub worked_zip : (handles : List H) (before after : List Worker) → map member_of handles ≡ before → All (λ (h : H). site_of h ≡ site) handles → All (λ (h : H). formula_of h ≡ formula) handles →
        AllZip WorkedFor handles after → AllZip (HasWorked (clauses_of formula) site) before after
    worked_zip handles before after are sites formulas worked = subst (λ (l : List Worker). AllZip (HasWorked (clauses_of formula) site) l after) are (all_worked handles after sites formulas worked)

module _ {A B : Type 0} (f : A → B) (R : A → A → Type 0) where
  -- what is at a place of one list stands beside what is there in the other
  zip_at : (xs ys : List A) → AllZip R xs ys → (k : ℕ) (b : B) → slice_get (map f ys) k ≡ Some b → (x : A) × (y : A) × (slice_get (map f xs) k ≡ Some (f x)) × (f y ≡ b) × R x y
  zip_at [] [] both k b is = absurd (cc)
  zip_at [] (y ∷ ys) both k b is = elim both [ ]
  zip_at (x ∷ xs) [] both k b is = elim both [ ]
  zip_at (x ∷ xs) (y ∷ ys) both zero b is = (x, y, refl, cc, both.0)
  zip_at (x ∷ xs) (y ∷ ys) both (suc k) b is = zip_at xs ys both.1 k b is

module _ (clauses : List (List ℤ)) (site : SharedSearch) where
  abbrev seat_of : Worker → WorkerSeat
  seat_of m = m.seat

  -- a worker's seat keeps its number
  worker_at : (before after : List Worker) → AllZip (HasWorked clauses site) before after → (number : ℕ) (seat : WorkerSeat) → slice_get (seats_of after) number ≡ Some seat →
      (old : WorkerSeat) × (slice_get (seats_of before) number ≡ Some old) × IsWorkerAt site.board seat × (seat.number ≡ old.number)
  worker_at before after worked number seat is =
      let (b, a, was, same, here) = zip_at seat_of (HasWorked clauses site) before after worked number seat is in
      (b.seat, was, subst (λ (s : WorkerSeat). IsWorkerAt site.board s) same here.at, ap (λ (s : WorkerSeat). s.number) (sym same) ∙ here.number_is)

  pub workers_kept : (before after : List Worker) → AllZip (HasWorked clauses site) before after → AreWorkersAt site.board (seats_of before) → AreWorkersAt site.board (seats_of after)
  workers_kept before after worked at = record {
    all = length-map after seat_of ∙ AllZip-long (HasWorked clauses site) before after worked ∙ sym (length-map before seat_of) ∙ at.all;
    each = λ number seat is. let (old, was, here, same) = worker_at before after worked number seat is in (here, same ∙ (at.each number old was).1);
  }

  stops_here : (before after : List Worker) → AllZip (HasWorked clauses site) before after → All (λ (s : SeatValue). s.word ≡ site.word) (stops_of after)
  stops_here [] [] worked = All-nil _
  stops_here [] (a ∷ after) worked = elim worked [ ]
  stops_here (b ∷ before) [] worked = elim worked [ ]
  stops_here (b ∷ before) (a ∷ after) worked = All-cons (λ (s : SeatValue). s.word ≡ site.word) a.stop (stops_of after) worked.0.word_is (stops_here before after worked.1)

  same_parts : (before after : List Worker) → AllZip (HasWorked clauses site) before after → parts_in (known_by (stops_of after)) ≡ parts_in (known_by (stops_of before))
  same_parts [] [] worked = refl
  same_parts [] (a ∷ after) worked = elim worked [ ]
  same_parts (b ∷ before) [] worked = elim worked [ ]
  same_parts (b ∷ before) (a ∷ after) worked = omega (arith, worked.0.parts_are, same_parts before after worked.1)

  pub stops_kept : (before after : List Worker) → AllZip (HasWorked clauses site) before after → AreAllSeats site.word (stops_of before) → AreAllSeats site.word (stops_of after)
  stops_kept before after worked at = record { at_word = stops_here before after worked; all_parts = same_parts before after worked ∙ at.all_parts }

  pub all_honest : (before after : List Worker) → AllZip (HasWorked clauses site) before after → All (λ (m : Worker). ticket_in m.seat.hand ≡ None → IsHonest clauses m.stop.knows (given_by m.seat)) after
  all_honest [] [] worked = All-nil _
  all_honest [] (a ∷ after) worked = elim worked [ ]
  all_honest (b ∷ before) [] worked = elim worked [ ]
  all_honest (b ∷ before) (a ∷ after) worked =
      All-cons (λ (m : Worker). ticket_in m.seat.hand ≡ None → IsHonest clauses m.stop.knows (given_by m.seat)) a after worked.0.honest (all_honest before after worked.1)

  -- all seats of the search came back
  pub all_returned : (crew : Participants) (returned : Returned) → IsCrewAt site crew → HasRun clauses site crew returned → AreAllAt site returned
  all_returned crew returned began ran = record {
    dealer_at = ran.dealer_at;
    collector_at = ran.collector_at;
    workers_at = workers_kept crew.members.items returned.members.items ran.worked began.workers_at;
    stops_at = stops_kept crew.members.items returned.members.items ran.worked began.stops_at;
    results_are = ran.results_are;
    all_gathered = ran.all_gathered ∙ sym (jobs_counted site.board.cubes crew.jobs.items (put_by returned.dealer) began.low ran.dealt);
  }

  -- the run of a search that was given the jobs of these leaves
  pub honest_run : (cubes : List (List ℤ)) (which : List ℕ) (crew : Participants) (returned : Returned) → AreLeaves cubes which → AreJobsOf cubes which crew.jobs.items → site.board.cubes ≡ length cubes →
      IsCrewAt site crew → HasRun clauses site crew returned → IsHonestRun clauses cubes which site returned
  honest_run cubes which crew returned asked jobs same began ran = record {
    asked = asked;
    cubes_are = same;
    few_cubes = omega (arith, began.few_cubes, same);
    dealt = (crew.jobs.items, jobs, rw (sym same) ran.dealt);
    honest = all_honest crew.members.items returned.members.items ran.worked;
  }
