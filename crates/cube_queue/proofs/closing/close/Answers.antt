use Rattle.std.proofs.Common.{◌≡◌, ◌≤◌, List, map, length, None, sym, ◌∙◌, ap, subst, ℕ, ℤ, [], ◌∷◌, arith}
use Rattle.std.specs.List.{All, Contains}
use Rattle.std.proofs.lemmas.List.Elements.{All-nil, All-cons, All-head, All-tail}
use Rattle.std.proofs.lemmas.Simd.{map-map}
use Rattle.cube_jobs.specs.declared.job.Settled.{Settled}
use Rattle.cube_jobs.specs.Results.{AreResultsOf, HasModelBelow}
use Rattle.cube_jobs.specs.declared.outcome.Outcome.TheVariants.{Skipped}
use Rattle.stop_word.specs.declared.views.View.{View}
use Rattle.stop_word.specs.Seats.{SeatValue, known_by}
use Rattle.stop_word.specs.WordRule.{least_of, marks_in, or_nothing}
use Rattle.job_board.specs.Accounts.{IsBalanced, AreAnswersTo}
use Rattle.job_board.specs.InFlight.{ticket_in}
use Rattle.job_board.specs.Merge.{IsMergeOf}
use Rattle.job_board.specs.Seats.{given_by, gathered_by, put_by}
use Rattle.job_board.specs.declared.seats.WorkerSeat.{WorkerSeat}
use Rattle.cube_queue.specs.Workers.{IsHonest}
use Rattle.cube_queue.specs.Participants.{seats_of, stops_of, IsHonestRun}
use Rattle.cube_queue.specs.declared.participants.Worker.{Worker}
use Rattle.cube_queue.specs.declared.participants.Returned.{Returned}
use Rattle.cube_queue.specs.declared.shared_search.SharedSearch.{SharedSearch}
use Rattle.cube_queue.proofs.CountLemmas.{results_counted}
use Rattle.cube_queue.proofs.AllResults.AnswerLemmas.{are_results, model_below}
use Rattle.cube_queue.proofs.closing.close.Goals as goal

-- The results of an honest run.

-- no worker has a job left in flight
hands_empty : (members : List Worker) → All (λ (seat : WorkerSeat). ticket_in seat.hand ≡ None) (seats_of members) → All (λ (m : Worker). ticket_in m.seat.hand ≡ None) members
hands_empty [] empty = All-nil (λ (m : Worker). ticket_in m.seat.hand ≡ None)
hands_empty (m ∷ members) empty =
    All-cons (λ (n : Worker). ticket_in n.seat.hand ≡ None) m members
    (All-head (λ (seat : WorkerSeat). ticket_in seat.hand ≡ None) m.seat (seats_of members) empty)
    (hands_empty members (All-tail (λ (seat : WorkerSeat). ticket_in seat.hand ≡ None) m.seat (seats_of members) empty))

abbrev member_gave : Worker → List Settled
member_gave m = given_by m.seat

abbrev member_knows : Worker → View
member_knows m = m.stop.knows

module _
    (clauses cubes : List (List ℤ)) (which : List ℕ) (site : SharedSearch) (returned : Returned) (word : ℕ)
    (run : IsHonestRun clauses cubes which site returned) (hands : All (λ (m : Worker). ticket_in m.seat.hand ≡ None) returned.members.items)
    (answers : AreAnswersTo site.board.cubes (put_by returned.dealer) (gathered_by returned.collector))
    (merge : IsMergeOf (map given_by (seats_of returned.members.items)) (gathered_by returned.collector))
    (word_is : word ≡ least_of (marks_in (known_by (stops_of returned.members.items))))
    (shown : All (λ (v : View). word ≤ v.least) (known_by (stops_of returned.members.items)))
  where
    all_honest : All (λ (m : Worker). IsHonest clauses (member_knows m) (member_gave m)) returned.members.items
    all_honest i d within = run.honest i d within (hands i d within)

    skipped_rightly : (settled : Settled) → Contains (gathered_by returned.collector) settled → settled.outcome ≡ Skipped → HasModelBelow clauses (gathered_by returned.collector) settled.ticket
    skipped_rightly settled among skipped =
        let same_gave = map-map given_by (λ (m : Worker). m.seat) returned.members.items in
        let same_known = map-map (λ (s : SeatValue). s.knows) (λ (m : Worker). m.stop) returned.members.items in
        let low = (answers.each settled among).0 in
        model_below clauses member_gave member_knows returned.members.items (gathered_by returned.collector) word
        all_honest
        (subst (λ (parts : List (List Settled)). IsMergeOf parts (gathered_by returned.collector)) same_gave merge)
        (word_is ∙ ap (λ (views : List View). least_of (marks_in views)) same_known)
        (subst (λ (views : List View). All (λ (v : View). word ≤ v.least) views) same_known shown)
        settled among (omega (arith, low, run.cubes_are, run.few_cubes)) skipped

    run_results : AreResultsOf clauses cubes which (gathered_by returned.collector)
    run_results =
        are_results cubes which run.dealt.0 (put_by returned.dealer) (gathered_by returned.collector) run.asked run.dealt.1 run.dealt.2
        (subst (λ (n : ℕ). AreAnswersTo n (put_by returned.dealer) (gathered_by returned.collector)) run.cubes_are answers)
        clauses skipped_rightly

pub returns : goal.returns
returns g c = λ clauses cubes which run.
    let returned = c.args.returned in
    let word = or_nothing c.close-least.result in
    let account = c.close-account.ensures in
    let counted = results_counted c.args.site.board.cubes (gathered_by returned.collector) account.low in
    let balanced : IsBalanced c.close-account.result =
    account.complete (account.numbers.gathered_is ∙ counted ∙ ap length (sym c.requires.results_are) ∙ c.requires.all_gathered ∙ sym account.numbers.put_is) in
    let seats = c.in_ok-seats.ensures.seats in
    let hands = hands_empty returned.members.items (subst (λ (list : List WorkerSeat). All (λ (seat : WorkerSeat). ticket_in seat.hand ≡ None) list) seats (account.hands balanced)) in
    let stops = c.in_ok-seats.ensures.stops in
    subst (λ (results : List Settled). AreResultsOf clauses cubes which results) (sym c.requires.results_are)
    (run_results clauses cubes which c.args.site returned word run hands
    (account.settled balanced)
    (subst (λ (list : List WorkerSeat). IsMergeOf (map given_by list) (gathered_by returned.collector)) seats (account.whole balanced))
    (c.close-least.ensures.least ∙ ap (λ (list : List SeatValue). least_of (marks_in (known_by list))) stops)
    (subst (λ (list : List SeatValue). All (λ (v : View). word ≤ v.least) (known_by list)) stops c.close-least.ensures.shown))
