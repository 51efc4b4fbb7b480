-- The places of tickets, by counting events alone: the k-th Take takes what the k-th Put put; a worker's k-th Give answers its k-th Take;
-- the k-th Gather gathers what the k-th Give gave. There are positions here, and neither queues nor jobs in flight.
use Rattle.std.specs.Prelude.{◌≡◌, ℕ, ◌+◌, ◌≤◌, List, [], ◌∷◌, length, map, drop, take, Option, Some, None, ◌==◌, cond}
use Rattle.std.specs.List.{Contains, slice_get, filter, filter_map, zip}
use Rattle.std.specs.Option.{option_to_list}
use Rattle.cube_jobs.specs.declared.outcome.Outcome.{Outcome}
use Rattle.dealing.specs.declared.event.Event.{Event}
use Rattle.dealing.specs.declared.event.Event.TheVariants.{Put, Take, Give, Gather}
use Rattle.dealing.specs.declared.given_outcome.GivenOutcome.{GivenOutcome}
use Rattle.dealing.specs.Machine.{State, given_of, hand_of, held_in, tickets_of, is_among}

abbrev pub put_by : Event → Option ℕ
put_by (Put ticket) = Some ticket
put_by (Take worker) = None
put_by (Give worker outcome) = None
put_by Gather = None

abbrev pub taker_in : Event → Option ℕ
taker_in (Put ticket) = None
taker_in (Take worker) = Some worker
taker_in (Give worker outcome) = None
taker_in Gather = None

abbrev pub giver_in : Event → Option (ℕ × Outcome)
giver_in (Put ticket) = None
giver_in (Take worker) = None
giver_in (Give worker outcome) = Some (worker, outcome)
giver_in Gather = None

abbrev pub gather_in : Event → Option (Unit {0})
gather_in (Put ticket) = None
gather_in (Take worker) = None
gather_in (Give worker outcome) = None
gather_in Gather = Some tt

-- the tickets of the Puts, in order
abbrev pub puts : List Event → List ℕ
puts events = filter_map put_by events

-- the workers of the Takes, in order
abbrev pub takers : List Event → List ℕ
takers events = filter_map taker_in events

-- the workers of the Gives with their outcomes, in order
abbrev pub gives : List Event → List (ℕ × Outcome)
gives events = filter_map giver_in events

-- how many Gathers there are
abbrev pub gathers : List Event → ℕ
gathers events = length (filter_map gather_in events)

-- the tickets that the worker takes, in order: the k-th Take takes what the k-th Put put
abbrev pub taken_by : ℕ → List Event → List ℕ
taken_by worker events = map (λ (p : ℕ × ℕ). p.1) (filter (λ (p : ℕ × ℕ). p.0 == worker) (zip (takers events) (puts events)))

-- the outcomes that the worker gives, in order
abbrev pub given_by : ℕ → List Event → List Outcome
given_by worker events = map (λ (p : ℕ × Outcome). p.1) (filter (λ (p : ℕ × Outcome). p.0 == worker) (gives events))

-- an outcome that a worker gave, under the ticket of the Take that it answers
pub record Answer : Type 0 where
  pub worker : ℕ
  pub ticket : ℕ
  pub outcome : Outcome

-- the tickets of the worker's answers
abbrev pub answered_by : ℕ → List Answer → List ℕ
answered_by worker answers = map (λ (a : Answer). a.ticket) (filter (λ (a : Answer). a.worker == worker) answers)

-- an answer as the machine keeps it
abbrev pub given_in : Answer → GivenOutcome
given_in a = given_of a.ticket a.outcome

-- The answers of the Gives, in order: a worker's k-th Give answers its k-th Take.
pub record AreAnswers (events : List Event) (answers : List Answer) : Type 0 where
  pub given : map (λ (a : Answer). (a.worker, a.outcome)) answers ≡ gives events
  pub each : (worker : ℕ) → answered_by worker answers ≡ take (length (given_by worker events)) (taken_by worker events)

-- The machine's queues, jobs in flight and ledger are those found by counting: the job queue is the Puts that no Take has taken, a worker's
-- job in flight its Take without a Give, the result queue the Gives that no Gather has gathered, the ledger those gathered.
pub record IsByCounting (events : List Event) (m : State) : Type 0 where
  pub answers : List Answer
  pub are_answers : AreAnswers events answers
  pub enough_puts : length (takers events) ≤ length (puts events)
  pub enough_gives : gathers events ≤ length (gives events)
  pub jobs : m.jobs ≡ drop (length (takers events)) (puts events)
  pub hands : (worker : ℕ) → option_to_list (hand_of m worker) ≡ drop (length (given_by worker events)) (taken_by worker events)
  pub results : m.results ≡ drop (gathers events) (map given_in answers)
  pub ledger : m.ledger ≡ take (gathers events) (map given_in answers)

-- how often the ticket is among these
abbrev pub times : ℕ → List ℕ → ℕ
times ticket [] = 0
times ticket (other ∷ tickets) = cond (other == ticket) 1 0 + times ticket tickets

-- each ticket put is in exactly one of job queue, jobs in flight, result queue and ledger, once, and no other is in any
abbrev pub AreInOnePlace : List Event → State → Type 0
AreInOnePlace events m =
    (ticket : ℕ) → times ticket m.jobs + times ticket (held_in m.hands) + times ticket (tickets_of m.results) + times ticket (tickets_of m.ledger) ≡ cond (is_among ticket (puts events)) 1 0

-- the ledger holds an outcome under a ticket only where a worker took the ticket and answered that very Take by giving the outcome
abbrev pub AreGivenByTakers : List Event → State → Type 0
AreGivenByTakers events m =
    (ticket : ℕ) (outcome : Outcome) → Contains m.ledger (given_of ticket outcome) →
    (worker : ℕ) × (k : ℕ) × (slice_get (taken_by worker events) k ≡ Some ticket) × (slice_get (given_by worker events) k ≡ Some outcome)

-- where queues are empty and no job is in flight, the ledger holds each ticket put, once, and no other
abbrev pub AreAllSettled : List Event → State → Type 0
AreAllSettled events m =
    m.jobs ≡ [] → ((worker : ℕ) → hand_of m worker ≡ None) → m.results ≡ [] →
    (ticket : ℕ) → times ticket (tickets_of m.ledger) ≡ cond (is_among ticket (puts events)) 1 0

-- what holds of every run, where these are its events without the refused ones, and this is the machine after them
pub record IsDealt (events : List Event) (m : State) : Type 0 where
  pub by_counting : IsByCounting events m
  pub in_one_place : AreInOnePlace events m
  pub given_by_takers : AreGivenByTakers events m
  pub all_settled : AreAllSettled events m
