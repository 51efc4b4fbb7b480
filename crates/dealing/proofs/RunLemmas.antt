-- Runs over lists of events.
use Rattle.std.proofs.Common.{◌≡◌, ℕ, ◌+◌, ◌<◌, ◌==◌, Bool, true, false, if◌then◌else◌, Option, None, Some, is_some, List, [], ◌∷◌, ◌++◌, length, replicate, option_to_list, refl, sym, ◌∙◌, ap, subst, ltb-true, append_assoc, append-nil, length-append, arith}
use Rattle.std.specs.List.{filter_map, cons_option}
use Rattle.std.proofs.lemmas.Bool.{eqb-false, not-false}
use Rattle.std.proofs.lemmas.List.Elements.{filter_map-append}
use Rattle.cube_jobs.specs.declared.outcome.Outcome.{Outcome}
use Rattle.dealing.specs.declared.event.Event.{Event}
use Rattle.dealing.specs.declared.event.Event.TheVariants.{Put, Take, Give, Gather}
use Rattle.dealing.specs.declared.given_outcome.GivenOutcome.{GivenOutcome}
use Rattle.dealing.specs.declared.refused.EventCause.{EventCause}
use Rattle.dealing.specs.declared.refused.EventCause.TheVariants.{NoJob, Busy, HoldsNothing, NoSuchWorker}
use Rattle.dealing.specs.Machine.{State, empty_machine, hand_of, refusal_of, after}
use Rattle.dealing.specs.Run.{run, accepted}
use Rattle.dealing.specs.Counting.{put_by, taker_in, giver_in, gather_in, puts, takers, gives, gathers, times}
use Rattle.dealing.proofs.TimesLemmas.{none_held, none_in_hands}
use Rattle.dealing.proofs.CountedLemmas.{Counted, counted_put, counted_take, counted_give, counted_gather}

module _ {X Y : Type 0} where
  -- an event of another kind
  same_map : (h : X → Option Y) (xs : List X) (x : X) → h x ≡ None → filter_map h (xs ++ x ∷ []) ≡ filter_map h xs
  same_map h xs x none = filter_map-append h xs (x ∷ []) ∙ ap (λ (y : Option Y). filter_map h xs ++ cons_option y []) none ∙ append-nil (filter_map h xs)

  -- one more event of this kind
  more_map : (h : X → Option Y) (xs : List X) (x : X) (y : Y) → h x ≡ Some y → filter_map h (xs ++ x ∷ []) ≡ filter_map h xs ++ y ∷ []
  more_map h xs x y is = filter_map-append h xs (x ∷ []) ∙ ap (λ (z : Option Y). filter_map h xs ++ cons_option z []) is

-- what is kept after these events
abbrev pub CountedBy : List Event → State → Type 0
CountedBy events m = Counted (takers events) (puts events) (gives events) (gathers events) m

counted_at : (takers takers' puts puts' : List ℕ) (gives gives' : List (ℕ × Outcome)) (gathers gathers' : ℕ) (m : State) → takers' ≡ takers → puts' ≡ puts → gives' ≡ gives → gathers' ≡ gathers →
    Counted takers puts gives gathers m → Counted takers' puts' gives' gathers' m
counted_at takers takers' puts puts' gives gives' gathers gathers' m ts ps gs n c =
    subst (λ (xs : List ℕ). Counted xs puts' gives' gathers' m) (sym ts)
    (subst (λ (xs : List ℕ). Counted takers xs gives' gathers' m) (sym ps)
    (subst (λ (xs : List (ℕ × Outcome)). Counted takers puts xs gathers' m) (sym gs) (subst (λ (k : ℕ). Counted takers puts gives k m) (sym n) c)))

-- what follows for the machine of a possible event
passed : (b : Bool) (cause : EventCause) → (if b then Some cause else None) ≡ None → b ≡ false
passed true cause e = absurd (cc)
passed false cause e = refl

passed_take : (a b c : Bool) → (if a then Some NoSuchWorker else if b then Some NoJob else if c then Some Busy else None) ≡ None → (a ≡ false) × (b ≡ false) × (c ≡ false)
passed_take true b c e = absurd (cc)
passed_take false true c e = absurd (cc)
passed_take false false true e = absurd (cc)
passed_take false false false e = (refl, refl, refl)

passed_give : (a b : Bool) → (if a then Some NoSuchWorker else if b then None else Some HoldsNothing) ≡ None → (a ≡ false) × (b ≡ true)
passed_give true b e = absurd (cc)
passed_give false true e = (refl, refl)
passed_give false false e = absurd (cc)

front_of : (xs : List ℕ) → (length xs == 0) ≡ false → (front : ℕ) × (rest : List ℕ) × (xs ≡ front ∷ rest)
front_of [] some = absurd (eqb-false 0 0 some refl)
front_of (x ∷ xs) some = (x, xs, refl)

some_of : (xs : List GivenOutcome) → (length xs == 0) ≡ false → 0 < length xs
some_of [] some = absurd (eqb-false 0 0 some refl)
some_of (x ∷ xs) some = omega arith

none_of : (hand : Option ℕ) → is_some hand ≡ false → hand ≡ None
none_of None e = refl
none_of (Some k) e = absurd (cc)

not_refused : (refusal : Option EventCause) → is_some refusal ≡ false → refusal ≡ None
not_refused None e = refl
not_refused (Some cause) e = absurd (cc)

held_of : (hand : Option ℕ) → is_some hand ≡ true → (ticket : ℕ) × (hand ≡ Some ticket)
held_of None e = absurd (cc)
held_of (Some k) e = (k, refl)

-- a possible event
counted_step : (events : List Event) (m : State) (event : Event) → CountedBy events m → refusal_of m event ≡ None → CountedBy (events ++ event ∷ []) (after m event)
counted_step events m (Put ticket) c e =
    counted_at (takers events) _ (puts events ++ ticket ∷ []) _ (gives events) _ (gathers events) _ (after m (Put ticket))
    (same_map taker_in events (Put ticket) refl)
    (more_map put_by events (Put ticket) ticket refl)
    (same_map giver_in events (Put ticket) refl)
    (ap length (same_map gather_in events (Put ticket) refl))
    (counted_put (takers events) (puts events) (gives events) (gathers events) m ticket c (passed _ _ e))
counted_step events m (Take worker) c e =
    let ok = passed_take _ _ _ e in
    let within : worker < length m.hands = ltb-true worker (length m.hands) (not-false _ ok.0) in
    let front = front_of m.jobs ok.1 in
    counted_at (takers events ++ worker ∷ []) _ (puts events) _ (gives events) _ (gathers events) _ (after m (Take worker))
    (more_map taker_in events (Take worker) worker refl)
    (same_map put_by events (Take worker) refl)
    (same_map giver_in events (Take worker) refl)
    (ap length (same_map gather_in events (Take worker) refl))
    (counted_take (takers events) (puts events) (gives events) (gathers events) m worker front.0 front.1 c within (none_of (hand_of m worker) ok.2) front.2)
counted_step events m (Give worker outcome) c e =
    let ok = passed_give _ _ e in
    let within : worker < length m.hands = ltb-true worker (length m.hands) (not-false _ ok.0) in
    let held = held_of (hand_of m worker) ok.1 in
    counted_at (takers events) _ (puts events) _ (gives events ++ (worker, outcome) ∷ []) _ (gathers events) _ (after m (Give worker outcome))
    (same_map taker_in events (Give worker outcome) refl)
    (same_map put_by events (Give worker outcome) refl)
    (more_map giver_in events (Give worker outcome) (worker, outcome) refl)
    (ap length (same_map gather_in events (Give worker outcome) refl))
    (counted_give (takers events) (puts events) (gives events) (gathers events) m (record { worker = worker; ticket = held.0; outcome = outcome }) c within held.1)
counted_step events m Gather c e =
    counted_at (takers events) _ (puts events) _ (gives events) _ (gathers events + 1) _ (after m Gather)
    (same_map taker_in events Gather refl)
    (same_map put_by events Gather refl)
    (same_map giver_in events Gather refl)
    (ap length (more_map gather_in events Gather tt refl) ∙ length-append (filter_map gather_in events) (tt ∷ []))
    (counted_gather (takers events) (puts events) (gives events) (gathers events) m c (some_of m.results (passed _ _ e)))

-- one event, refused or not, and then the others
counted_one : (events : List Event) → ((before : List Event) (m : State) → CountedBy before m → CountedBy (before ++ accepted m events) (run m events)) →
    (before : List Event) (m : State) (event : Event) (b : Bool) → is_some (refusal_of m event) ≡ b → CountedBy before m →
    CountedBy (before ++ (if b then accepted m events else event ∷ accepted (after m event) events)) (run (if b then m else after m event) events)
counted_one events others before m event true is c = others before m c
counted_one events others before m event false is c =
    subst (λ (all : List Event). CountedBy all (run (after m event) events)) (append_assoc before (event ∷ []) (accepted (after m event) events))
    (others (before ++ event ∷ []) (after m event) (counted_step before m event c (not_refused (refusal_of m event) is)))

counted_run : (events before : List Event) (m : State) → CountedBy before m → CountedBy (before ++ accepted m events) (run m events)
counted_run [] before m c = subst (λ (all : List Event). CountedBy all m) (sym (append-nil before)) c
counted_run (event ∷ events) before m c = counted_one events (λ before m c. counted_run events before m c) before m event (is_some (refusal_of m event)) refl c

-- before any event
counted_none : (workers : ℕ) → CountedBy [] (empty_machine workers)
counted_none workers =
    record {
      answers = [];
      given = refl;
      each = λ worker. ap option_to_list (none_held workers worker);
      enough = omega arith;
      jobs = refl;
      kept = refl;
      gathered = refl;
      same = λ ticket. ap (λ (xs : List ℕ). times ticket (xs ++ [])) (none_in_hands (replicate workers None) (none_held workers));
      once = λ ticket. omega arith;
    }

pub counted : (workers : ℕ) (events : List Event) → CountedBy (accepted (empty_machine workers) events) (run (empty_machine workers) events)
counted workers events = counted_run events [] (empty_machine workers) (counted_none workers)
