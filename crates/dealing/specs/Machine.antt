-- The dealing machine: its state, which events are possible in it, and what they make of it.
use Rattle.std.specs.Prelude.{◌≡◌, ℕ, Bool, true, false, not, List, [], ◌∷◌, ◌++◌, length, map, drop, take, replicate, slice_index_or, slice_set, Option, Some, None, is_some, Result, Ok, Err, nat_lt, ◌==◌, if◌then◌else◌, IsTrue}
use Rattle.std.specs.List.{slice_get, list_any, flat_map, find}
use Rattle.std.specs.Option.{option_to_list, option_map}
use Rattle.cube_jobs.specs.declared.outcome.Outcome.{Outcome}
use Rattle.dealing.specs.declared.event.Event.{Event}
use Rattle.dealing.specs.declared.event.Event.TheVariants.{Put, Take, Give, Gather}
use Rattle.dealing.specs.declared.given_outcome.GivenOutcome.{GivenOutcome}
use Rattle.dealing.specs.declared.refused.EventCause.{EventCause}
use Rattle.dealing.specs.declared.refused.EventCause.TheVariants.{PutTwice, NoJob, Busy, HoldsNothing, NoResult, NoSuchWorker}
use Rattle.text_lines.specs.declared.plain_fault.PlainFault.{PlainFault}
use Rattle.text_lines.specs.declared.plain_fault.PlainFault.TheVariants.{OutOfMemory, For}

-- The tickets in the job queue, its front first. What each worker has in flight. The outcomes in the result queue, each under its ticket,
-- its front first. The ledger: a map of tickets to outcomes, as the list of its entries.
pub record State : Type 0 where
  pub jobs : List ℕ
  pub hands : List (Option ℕ)
  pub results : List GivenOutcome
  pub ledger : List GivenOutcome

-- the machine of these workers, by their number, before any event
abbrev pub empty_machine : ℕ → State
empty_machine workers = record { jobs = []; hands = replicate workers None; results = []; ledger = [] }

-- an outcome under a ticket
abbrev pub given_of : ℕ → Outcome → GivenOutcome
given_of ticket outcome = record { ticket = ticket; outcome = outcome }

-- what the worker has in flight
abbrev pub hand_of : State → ℕ → Option ℕ
hand_of m worker = slice_index_or m.hands worker None

-- the tickets in these slots
abbrev pub held_in : List (Option ℕ) → List ℕ
held_in hands = flat_map option_to_list hands

-- whether the ticket is in this slot
abbrev pub is_in_hand : ℕ → Option ℕ → Bool
is_in_hand ticket None = false
is_in_hand ticket (Some held) = held == ticket

-- the tickets of these outcomes
abbrev pub tickets_of : List GivenOutcome → List ℕ
tickets_of given = map (λ (g : GivenOutcome). g.ticket) given

-- all tickets in the machine: in the job queue, in flight, in the result queue, in the ledger
abbrev pub tickets_in : State → List ℕ
tickets_in m = m.jobs ++ (held_in m.hands ++ (tickets_of m.results ++ tickets_of m.ledger))

-- whether the ticket is among these
abbrev pub is_among : ℕ → List ℕ → Bool
is_among ticket tickets = list_any (λ other. other == ticket) tickets

-- what the ledger holds under the ticket
abbrev pub outcome_under : ℕ → List GivenOutcome → Option Outcome
outcome_under ticket ledger = option_map (λ (g : GivenOutcome). g.outcome) (find (λ (g : GivenOutcome). g.ticket == ticket) ledger)

-- Why an event is refused. Put: the ticket is in the machine. Take: there is no such worker; the job queue is empty; the worker has a job
-- in flight. Give: there is no such worker; it has no job in flight. Gather: the result queue is empty.
abbrev pub refusal_of : State → Event → Option EventCause
refusal_of m (Put ticket) = if is_among ticket (tickets_in m) then Some PutTwice else None
refusal_of m (Take worker) =
    if not (nat_lt worker (length m.hands)) then Some NoSuchWorker
    else if length m.jobs == 0 then Some NoJob
    else if is_some (hand_of m worker) then Some Busy
    else None
refusal_of m (Give worker outcome) =
    if not (nat_lt worker (length m.hands)) then Some NoSuchWorker
    else if is_some (hand_of m worker) then None
    else Some HoldsNothing
refusal_of m Gather = if length m.results == 0 then Some NoResult else None

-- What a possible event makes of the machine. Put: the ticket joins the job queue's back. Take: the job queue's front goes to the worker.
-- Give: the ticket in flight joins the result queue's back with the outcome, and the worker has none in flight. Gather: the result queue's
-- front goes into the ledger.
abbrev pub after : State → Event → State
after m (Put ticket) = record { jobs = m.jobs ++ ticket ∷ []; hands = m.hands; results = m.results; ledger = m.ledger }
after m (Take worker) = record { jobs = drop 1 m.jobs; hands = slice_set m.hands worker (slice_get m.jobs 0); results = m.results; ledger = m.ledger }
after m (Give worker outcome) =
    record {
      jobs = m.jobs;
      hands = slice_set m.hands worker None;
      results = m.results ++ map (λ (k : ℕ). given_of k outcome) (option_to_list (hand_of m worker));
      ledger = m.ledger;
    }
after m Gather = record { jobs = m.jobs; hands = m.hands; results = drop 1 m.results; ledger = m.ledger ++ take 1 m.results }

-- whether the event brings something new into the machine, for which there has to be room
abbrev pub brings_something : Event → Bool
brings_something (Put ticket) = true
brings_something (Take worker) = false
brings_something (Give worker outcome) = true
brings_something Gather = false

-- One step. A possible event changes the machine, unless there is no memory for what it brings; a refused one does not.
abbrev pub IsStep : State → Event → Result (Unit {0}) (PlainFault EventCause) → State → Type 0
IsStep m event (Ok _) n = (refusal_of m event ≡ None) × (n ≡ after m event)
IsStep m event (Err OutOfMemory) n = (refusal_of m event ≡ None) × IsTrue (brings_something event) × (n ≡ m)
IsStep m event (Err (For cause)) n = (refusal_of m event ≡ Some cause) × (n ≡ m)
