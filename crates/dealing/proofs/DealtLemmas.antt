-- What counting finds, and what follows for each ticket.
use Rattle.std.proofs.Common.{◌≡◌, ℕ, zero, suc, ◌+◌, ◌<◌, ◌==◌, Bool, true, false, cond, Some, List, [], ◌∷◌, ◌++◌, map, length, get_or, take, drop, option_to_list, refl, sym, ◌∙◌, ap, eq-eqb, take_at, drop_at, length-append, arith}
use Rattle.std.specs.List.{filter, slice_get}
use Rattle.std.proofs.lemmas.List.{length-map}
use Rattle.cube_jobs.specs.declared.outcome.Outcome.{Outcome}
use Rattle.dealing.specs.declared.event.Event.{Event}
use Rattle.dealing.specs.declared.given_outcome.GivenOutcome.{GivenOutcome}
use Rattle.dealing.specs.Machine.{State, given_of, hand_of, held_in, tickets_of}
use Rattle.dealing.specs.Counting.{Answer, answered_by, given_in, given_by, gives, gathers, puts, times, IsByCounting, AreInOnePlace, AreGivenByTakers, AreAllSettled, IsDealt}
use Rattle.dealing.proofs.TimesLemmas.{times_among, none_in_hands}
use Rattle.dealing.proofs.CountedLemmas.{times_in}
use Rattle.dealing.proofs.RunLemmas.{CountedBy}

-- the worker's outcomes, of its answers and of its Gives
outcomes_cons : (b : Bool) (worker : ℕ) (a : Answer) (xs : List (ℕ × Outcome)) (ys : List Answer) →
    map (λ (p : ℕ × Outcome). p.1) xs ≡ map (λ (a : Answer). a.outcome) ys →
    map (λ (p : ℕ × Outcome). p.1) (cond b ((a.worker, a.outcome) ∷ xs) xs) ≡ map (λ (a : Answer). a.outcome) (cond b (a ∷ ys) ys)
outcomes_cons true worker a xs ys same = ap (λ (os : List Outcome). a.outcome ∷ os) same
outcomes_cons false worker a xs ys same = same

outcomes_by : (worker : ℕ) (answers : List Answer) →
    map (λ (p : ℕ × Outcome). p.1) (filter (λ (p : ℕ × Outcome). p.0 == worker) (map (λ (a : Answer). (a.worker, a.outcome)) answers))
    ≡ map (λ (a : Answer). a.outcome) (filter (λ (a : Answer). a.worker == worker) answers)
outcomes_by worker [] = refl
outcomes_by worker (a ∷ answers) = outcomes_cons (a.worker == worker) worker a _ _ (outcomes_by worker answers)

outcomes_are : (worker : ℕ) (events : List Event) (answers : List Answer) → map (λ (a : Answer). (a.worker, a.outcome)) answers ≡ gives events →
    given_by worker events ≡ map (λ (a : Answer). a.outcome) (filter (λ (a : Answer). a.worker == worker) answers)
outcomes_are worker events answers given =
    ap (λ (gs : List (ℕ × Outcome)). map (λ (p : ℕ × Outcome). p.1) (filter (λ (p : ℕ × Outcome). p.0 == worker) gs)) (sym given) ∙ outcomes_by worker answers

as_many : (worker : ℕ) (events : List Event) (answers : List Answer) → map (λ (a : Answer). (a.worker, a.outcome)) answers ≡ gives events →
    length (answered_by worker answers) ≡ length (given_by worker events)
as_many worker events answers given =
    length-map (filter (λ (a : Answer). a.worker == worker) answers) (λ (a : Answer). a.ticket)
    ∙ sym (ap length (outcomes_are worker events answers given) ∙ length-map (filter (λ (a : Answer). a.worker == worker) answers) (λ (a : Answer). a.outcome))

by_counting : (events : List Event) (m : State) → CountedBy events m → IsByCounting events m
by_counting events m c =
    let long : length (map given_in c.answers) ≡ length m.ledger + length m.results = ap length c.kept ∙ length-append m.ledger m.results in
    let all : length c.answers ≡ length (gives events) = sym (length-map c.answers (λ (a : Answer). (a.worker, a.outcome))) ∙ ap length c.given in
    record {
      answers = c.answers;
      are_answers = record {
        given = c.given;
        each = λ worker.
            sym (take_at (answered_by worker c.answers) (option_to_list (hand_of m worker)) (length (given_by worker events)) (as_many worker events c.answers c.given))
            ∙ ap (take (length (given_by worker events))) (c.each worker);
      };
      enough_puts = c.enough;
      enough_gives = omega (arith, long, all, c.gathered, length-map c.answers given_in);
      jobs = c.jobs;
      hands = λ worker.
          sym (drop_at (answered_by worker c.answers) (option_to_list (hand_of m worker)) (length (given_by worker events)) (as_many worker events c.answers c.given))
          ∙ ap (drop (length (given_by worker events))) (c.each worker);
      results = sym (ap (drop (gathers events)) c.kept ∙ drop_at m.ledger m.results (gathers events) c.gathered);
      ledger = sym (ap (take (gathers events)) c.kept ∙ take_at m.ledger m.results (gathers events) c.gathered);
    }

in_one_place : (events : List Event) (m : State) → CountedBy events m → AreInOnePlace events m
in_one_place events m c ticket = sym (times_in ticket m) ∙ c.same ticket ∙ times_among ticket (puts events) (c.once ticket)

all_settled : (events : List Event) (m : State) → AreInOnePlace events m → AreAllSettled events m
all_settled events m places jobs hands results ticket =
    let queued : times ticket m.jobs ≡ 0 = ap (times ticket) jobs in
    let held : times ticket (held_in m.hands) ≡ 0 = ap (times ticket) (none_in_hands m.hands hands) in
    let given : times ticket (tickets_of m.results) ≡ 0 = ap (λ (gs : List GivenOutcome). times ticket (tickets_of gs)) results in
    omega (arith, places ticket, queued, held, given)

-- an answer's place among those of its worker
record IsFound (answers : List Answer) (ticket : ℕ) (outcome : Outcome) : Type 0 where
  pub worker : ℕ
  pub place : ℕ
  pub ticket_is : slice_get (answered_by worker answers) place ≡ Some ticket
  pub outcome_is : slice_get (map (λ (a : Answer). a.outcome) (filter (λ (a : Answer). a.worker == worker) answers)) place ≡ Some outcome

found_here : (a : Answer) (answers : List Answer) (b : Bool) → (a.worker == a.worker) ≡ b → b ≡ true →
    (slice_get (map (λ (a : Answer). a.ticket) (cond b (a ∷ filter (λ (o : Answer). o.worker == a.worker) answers) (filter (λ (o : Answer). o.worker == a.worker) answers))) 0 ≡ Some a.ticket)
    × (slice_get (map (λ (a : Answer). a.outcome) (cond b (a ∷ filter (λ (o : Answer). o.worker == a.worker) answers) (filter (λ (o : Answer). o.worker == a.worker) answers))) 0 ≡ Some a.outcome)
found_here a answers true is e = (refl, refl)
found_here a answers false is e = absurd (cc)

found_after : (a : Answer) (answers : List Answer) (ticket : ℕ) (outcome : Outcome) (f : IsFound answers ticket outcome) (b : Bool) → (a.worker == f.worker) ≡ b → IsFound (a ∷ answers) ticket outcome
found_after a answers ticket outcome f true is =
    record {
      worker = f.worker;
      place = suc f.place;
      ticket_is = ap (λ (b : Bool). slice_get (map (λ (a : Answer). a.ticket) (cond b (a ∷ filter (λ (o : Answer). o.worker == f.worker) answers) (filter (λ (o : Answer). o.worker == f.worker) answers))) (suc f.place)) is ∙ f.ticket_is;
      outcome_is = ap (λ (b : Bool). slice_get (map (λ (a : Answer). a.outcome) (cond b (a ∷ filter (λ (o : Answer). o.worker == f.worker) answers) (filter (λ (o : Answer). o.worker == f.worker) answers))) (suc f.place)) is ∙ f.outcome_is;
    }
found_after a answers ticket outcome f false is =
    record {
      worker = f.worker;
      place = f.place;
      ticket_is = ap (λ (b : Bool). slice_get (map (λ (a : Answer). a.ticket) (cond b (a ∷ filter (λ (o : Answer). o.worker == f.worker) answers) (filter (λ (o : Answer). o.worker == f.worker) answers))) f.place) is ∙ f.ticket_is;
      outcome_is = ap (λ (b : Bool). slice_get (map (λ (a : Answer). a.outcome) (cond b (a ∷ filter (λ (o : Answer). o.worker == f.worker) answers) (filter (λ (o : Answer). o.worker == f.worker) answers))) f.place) is ∙ f.outcome_is;
    }

found : (answers : List Answer) (place ticket : ℕ) (outcome : Outcome) → slice_get (map given_in answers) place ≡ Some (given_of ticket outcome) → IsFound answers ticket outcome
found [] place ticket outcome is = absurd (cc)
found (a ∷ answers) zero ticket outcome is =
    let same : given_in a ≡ given_of ticket outcome = cc is in
    let here = found_here a answers (a.worker == a.worker) refl (eq-eqb a.worker a.worker refl) in
    record {
      worker = a.worker;
      place = 0;
      ticket_is = here.0 ∙ ap (λ (g : GivenOutcome). Some g.ticket) same;
      outcome_is = here.1 ∙ ap (λ (g : GivenOutcome). Some g.outcome) same;
    }
found (a ∷ answers) (suc place) ticket outcome is =
    let f = found answers place ticket outcome is in
    found_after a answers ticket outcome f (a.worker == f.worker) refl

module _ {X : Type 0} where
  get_front : (xs ys : List X) (place : ℕ) (x : X) → slice_get xs place ≡ Some x → slice_get (xs ++ ys) place ≡ Some x
  get_front [] ys place x is = absurd (cc)
  get_front (y ∷ xs) ys zero x is = is
  get_front (y ∷ xs) ys (suc place) x is = get_front xs ys place x is

  get_at : (xs : List X) (place : ℕ) (x : X) → place < length xs → get_or xs place x ≡ x → slice_get xs place ≡ Some x
  get_at [] place x within is = absurd (omega arith)
  get_at (y ∷ xs) zero x within is = ap Some is
  get_at (y ∷ xs) (suc place) x within is = get_at xs place x (omega arith) is

given_by_takers : (events : List Event) (m : State) → CountedBy events m → AreGivenByTakers events m
given_by_takers events m c ticket outcome there =
    let at : slice_get (m.ledger ++ m.results) there.0 ≡ Some (given_of ticket outcome) = get_front m.ledger m.results there.0 (given_of ticket outcome) (get_at m.ledger there.0 (given_of ticket outcome) there.1 there.2) in
    let f = found c.answers there.0 ticket outcome (ap (λ (gs : List GivenOutcome). slice_get gs there.0) c.kept ∙ at) in (
      f.worker,
      f.place,
      ap (λ (ts : List ℕ). slice_get ts f.place) (sym (c.each f.worker)) ∙ get_front (answered_by f.worker c.answers) (option_to_list (hand_of m f.worker)) f.place ticket f.ticket_is,
      ap (λ (os : List Outcome). slice_get os f.place) (outcomes_are f.worker events c.answers c.given) ∙ f.outcome_is,
    )

pub dealt : (events : List Event) (m : State) → CountedBy events m → IsDealt events m
dealt events m c =
    let places = in_one_place events m c in
    record {
      by_counting = by_counting events m c;
      in_one_place = places;
      given_by_takers = given_by_takers events m c;
      all_settled = all_settled events m places;
    }
