-- What counting finds is kept by each event.
use Rattle.std.proofs.Common.{◌≡◌, ℕ, suc, ◌+◌, ◌-◌, ◌<◌, ◌≤◌, ◌==◌, Bool, true, false, cond, Option, None, Some, List, [], ◌∷◌, ◌++◌, map, length, get_or, take, drop, set, option_to_list, refl, sym, ◌∙◌, ap, eqb-true, append_assoc, append-nil, length-append, length-drop, drop-drop, take-append-drop, length-take-le, get_or-set_same, get_or-set_other, arith}
use Rattle.std.specs.List.{filter, zip, slice_get}
use Rattle.std.proofs.lemmas.List.{map-append, drop-append-le}
use Rattle.std.proofs.lemmas.Bool.{eqb-false}
use Rattle.std.proofs.lemmas.List.Elements.{filter-append}
use Rattle.cube_jobs.specs.declared.outcome.Outcome.{Outcome}
use Rattle.dealing.specs.declared.event.Event.TheVariants.{Put, Take, Give, Gather}
use Rattle.dealing.specs.declared.given_outcome.GivenOutcome.{GivenOutcome}
use Rattle.dealing.specs.Machine.{State, hand_of, held_in, tickets_of, tickets_in, is_among, given_of, after}
use Rattle.dealing.specs.Counting.{Answer, answered_by, given_in, times}
use Rattle.dealing.proofs.TimesLemmas.{times-append, none_among, once_more, held_set}

-- the tickets that the worker takes, where these are the workers of the Takes and the tickets of the Puts
abbrev pub taken_of : ℕ → List ℕ → List ℕ → List ℕ
taken_of worker takers puts = map (λ (p : ℕ × ℕ). p.1) (filter (λ (p : ℕ × ℕ). p.0 == worker) (zip takers puts))

-- what a run keeps, by the workers of its Takes, the tickets of its Puts, its Gives, and how many Gathers it has
pub record Counted (takers puts : List ℕ) (gives : List (ℕ × Outcome)) (gathers : ℕ) (m : State) : Type 0 where
  pub answers : List Answer
  pub given : map (λ (a : Answer). (a.worker, a.outcome)) answers ≡ gives
  pub each : (worker : ℕ) → answered_by worker answers ++ option_to_list (hand_of m worker) ≡ taken_of worker takers puts
  pub enough : length takers ≤ length puts
  pub jobs : m.jobs ≡ drop (length takers) puts
  pub kept : map given_in answers ≡ m.ledger ++ m.results
  pub gathered : length m.ledger ≡ gathers
  pub same : (ticket : ℕ) → times ticket (tickets_in m) ≡ times ticket puts
  pub once : (ticket : ℕ) → times ticket puts ≤ 1

-- how often a ticket is in the machine
pub times_in : (ticket : ℕ) (m : State) → times ticket (tickets_in m) ≡ times ticket m.jobs + times ticket (held_in m.hands) + times ticket (tickets_of m.results) + times ticket (tickets_of m.ledger)
times_in ticket m =
    omega (
      arith,
      times-append ticket m.jobs (held_in m.hands ++ (tickets_of m.results ++ tickets_of m.ledger)),
      times-append ticket (held_in m.hands) (tickets_of m.results ++ tickets_of m.ledger),
      times-append ticket (tickets_of m.results) (tickets_of m.ledger),
    )

-- Puts past the Takes change no pair
zip_put : (takers puts more : List ℕ) → length takers ≤ length puts → zip takers (puts ++ more) ≡ zip takers puts
zip_put [] puts more few = refl
zip_put (t ∷ takers) [] more few = absurd (omega arith)
zip_put (t ∷ takers) (p ∷ puts) more few = ap (λ (ps : List (ℕ × ℕ)). (t, p) ∷ ps) (zip_put takers puts more (omega arith))

-- one more Take takes the next Put
zip_take : (takers puts : List ℕ) (worker front : ℕ) (rest : List ℕ) → drop (length takers) puts ≡ front ∷ rest → zip (takers ++ worker ∷ []) puts ≡ zip takers puts ++ (worker, front) ∷ []
zip_take [] [] worker front rest is = absurd (cc)
zip_take [] (p ∷ puts) worker front rest is = let same : p ≡ front = cc in ap (λ (f : ℕ). (worker, f) ∷ []) same
zip_take (t ∷ takers) [] worker front rest is = absurd (cc)
zip_take (t ∷ takers) (p ∷ puts) worker front rest is = ap (λ (ps : List (ℕ × ℕ)). (t, p) ∷ ps) (zip_take takers puts worker front rest is)

pub counted_put : (takers puts : List ℕ) (gives : List (ℕ × Outcome)) (gathers : ℕ) (m : State) (ticket : ℕ) → Counted takers puts gives gathers m → is_among ticket (tickets_in m) ≡ false →
    Counted takers (puts ++ ticket ∷ []) gives gathers (after m (Put ticket))
counted_put takers puts gives gathers m ticket c new =
    let none : times ticket puts ≡ 0 = sym (c.same ticket) ∙ none_among ticket (tickets_in m) new in
    record {
      answers = c.answers;
      given = c.given;
      each = λ worker. c.each worker ∙ ap (λ (ps : List (ℕ × ℕ)). map (λ (p : ℕ × ℕ). p.1) (filter (λ (p : ℕ × ℕ). p.0 == worker) ps)) (sym (zip_put takers puts (ticket ∷ []) c.enough));
      enough = omega (arith, c.enough, length-append puts (ticket ∷ []));
      jobs = ap (λ (xs : List ℕ). xs ++ ticket ∷ []) c.jobs ∙ sym (drop-append-le (length takers) puts (ticket ∷ []) c.enough);
      kept = c.kept;
      gathered = c.gathered;
      same = λ other.
          omega (arith, times_in other (after m (Put ticket)), times_in other m, c.same other, times-append other m.jobs (ticket ∷ []), times-append other puts (ticket ∷ []));
      once = λ other. once_more other ticket puts (c.once other) none;
    }

-- the tickets of the worker after one more Take
taken_more : (takers puts : List ℕ) (worker front : ℕ) (rest : List ℕ) (other : ℕ) → drop (length takers) puts ≡ front ∷ rest →
    taken_of other (takers ++ worker ∷ []) puts ≡ taken_of other takers puts ++ map (λ (p : ℕ × ℕ). p.1) (filter (λ (p : ℕ × ℕ). p.0 == other) ((worker, front) ∷ []))
taken_more takers puts worker front rest other is =
    ap (λ (ps : List (ℕ × ℕ)). map (λ (p : ℕ × ℕ). p.1) (filter (λ (p : ℕ × ℕ). p.0 == other) ps)) (zip_take takers puts worker front rest is)
    ∙ ap (map (λ (p : ℕ × ℕ). p.1)) (filter-append (λ (p : ℕ × ℕ). p.0 == other) (zip takers puts) ((worker, front) ∷ []))
    ∙ map-append (λ (p : ℕ × ℕ). p.1) (filter (λ (p : ℕ × ℕ). p.0 == other) (zip takers puts)) (filter (λ (p : ℕ × ℕ). p.0 == other) ((worker, front) ∷ []))

-- what the workers have answered and hold, after the Take
hands_take : (hands : List (Option ℕ)) (worker front other : ℕ) (b : Bool) → (worker == other) ≡ b → worker < length hands → get_or hands worker None ≡ None → (answered taken : List ℕ) →
    answered ++ option_to_list (get_or hands other None) ≡ taken →
    answered ++ option_to_list (get_or (set hands worker (Some front)) other None) ≡ taken ++ map (λ (p : ℕ × ℕ). p.1) (cond b ((worker, front) ∷ []) [])
hands_take hands worker front other true is within none answered taken so =
    let same : worker ≡ other = eqb-true worker other is in
    let here : get_or (set hands worker (Some front)) other None ≡ Some front = ap (λ (k : ℕ). get_or (set hands worker (Some front)) k None) (sym same) ∙ get_or-set_same hands worker (Some front) None within in
    let empty : get_or hands other None ≡ None = ap (λ (k : ℕ). get_or hands k None) (sym same) ∙ none in
    let before : answered ≡ taken = sym (append-nil answered) ∙ ap (λ (h : Option ℕ). answered ++ option_to_list h) (sym empty) ∙ so in
    ap (λ (h : Option ℕ). answered ++ option_to_list h) here ∙ ap (λ (xs : List ℕ). xs ++ front ∷ []) before
hands_take hands worker front other false is within none answered taken so =
    ap (λ (h : Option ℕ). answered ++ option_to_list h) (get_or-set_other hands worker other (Some front) None (λ e. eqb-false worker other is (sym e)))
    ∙ so
    ∙ sym (append-nil taken)

pub counted_take : (takers puts : List ℕ) (gives : List (ℕ × Outcome)) (gathers : ℕ) (m : State) (worker front : ℕ) (rest : List ℕ) → Counted takers puts gives gathers m → worker < length m.hands →
    hand_of m worker ≡ None → m.jobs ≡ front ∷ rest → Counted (takers ++ worker ∷ []) puts gives gathers (after m (Take worker))
counted_take takers puts gives gathers m worker front rest c within none is =
    let left : drop (length takers) puts ≡ front ∷ rest = sym c.jobs ∙ is in
    let long : length puts - length takers ≡ suc (length rest) = sym (length-drop (length takers) puts) ∙ ap length left in
    let first : slice_get m.jobs 0 ≡ Some front = ap (λ (xs : List ℕ). slice_get xs 0) is in
    let others : drop 1 m.jobs ≡ rest = ap (drop 1) is in
    record {
      answers = c.answers;
      given = c.given;
      each = λ other.
          ap (λ (h : Option ℕ). answered_by other c.answers ++ option_to_list (get_or (set m.hands worker h) other None)) first
          ∙ hands_take m.hands worker front other (worker == other) refl within none (answered_by other c.answers) (taken_of other takers puts) (c.each other)
          ∙ sym (taken_more takers puts worker front rest other left);
      enough = omega (arith, long, length-append takers (worker ∷ []));
      jobs = ap (drop 1) c.jobs ∙ drop-drop 1 (length takers) puts ∙ ap (λ (n : ℕ). drop n puts) (sym (length-append takers (worker ∷ [])));
      kept = c.kept;
      gathered = c.gathered;
      same = λ ticket.
          let here : times ticket (option_to_list (slice_get m.jobs 0)) ≡ times ticket (front ∷ []) = ap (λ (h : Option ℕ). times ticket (option_to_list h)) first in
          let gone : times ticket (option_to_list (get_or m.hands worker None)) ≡ 0 = ap (λ (h : Option ℕ). times ticket (option_to_list h)) none in
          let queued : times ticket m.jobs ≡ times ticket (front ∷ rest) = ap (times ticket) is in
          let now : times ticket (drop 1 m.jobs) ≡ times ticket rest = ap (times ticket) others in
          omega (
            arith,
            times_in ticket (after m (Take worker)),
            times_in ticket m,
            c.same ticket,
            held_set ticket m.hands worker (slice_get m.jobs 0) within,
            here,
            gone,
            queued,
            now,
          );
      once = c.once;
    }

-- the worker's answers after one more Give
answered_more : (other : ℕ) (answers : List Answer) (a : Answer) →
    answered_by other (answers ++ a ∷ []) ≡ answered_by other answers ++ map (λ (a : Answer). a.ticket) (filter (λ (a : Answer). a.worker == other) (a ∷ []))
answered_more other answers a =
    ap (map (λ (a : Answer). a.ticket)) (filter-append (λ (a : Answer). a.worker == other) answers (a ∷ []))
    ∙ map-append (λ (a : Answer). a.ticket) (filter (λ (a : Answer). a.worker == other) answers) (filter (λ (a : Answer). a.worker == other) (a ∷ []))

-- what the workers have answered and hold, after the Give
hands_give : (hands : List (Option ℕ)) (other : ℕ) (a : Answer) (b : Bool) → (a.worker == other) ≡ b → a.worker < length hands → get_or hands a.worker None ≡ Some a.ticket → (answered taken : List ℕ) →
    answered ++ option_to_list (get_or hands other None) ≡ taken →
    (answered ++ map (λ (a : Answer). a.ticket) (cond b (a ∷ []) [])) ++ option_to_list (get_or (set hands a.worker None) other None) ≡ taken
hands_give hands other a true is within holds answered taken so =
    let same : a.worker ≡ other = eqb-true a.worker other is in
    let here : get_or (set hands a.worker None) other None ≡ None = ap (λ (k : ℕ). get_or (set hands a.worker None) k None) (sym same) ∙ get_or-set_same hands a.worker None None within in
    let held : get_or hands other None ≡ Some a.ticket = ap (λ (k : ℕ). get_or hands k None) (sym same) ∙ holds in
    ap (λ (h : Option ℕ). (answered ++ a.ticket ∷ []) ++ option_to_list h) here
    ∙ append-nil (answered ++ a.ticket ∷ [])
    ∙ ap (λ (h : Option ℕ). answered ++ option_to_list h) (sym held)
    ∙ so
hands_give hands other a false is within holds answered taken so =
    ap (λ (xs : List ℕ). xs ++ option_to_list (get_or (set hands a.worker None) other None)) (append-nil answered)
    ∙ ap (λ (h : Option ℕ). answered ++ option_to_list h) (get_or-set_other hands a.worker other None None (λ e. eqb-false a.worker other is (sym e)))
    ∙ so

pub counted_give : (takers puts : List ℕ) (gives : List (ℕ × Outcome)) (gathers : ℕ) (m : State) (a : Answer) → Counted takers puts gives gathers m → a.worker < length m.hands →
    hand_of m a.worker ≡ Some a.ticket → Counted takers puts (gives ++ (a.worker, a.outcome) ∷ []) gathers (after m (Give a.worker a.outcome))
counted_give takers puts gives gathers m a c within holds =
    let made = λ (h : Option ℕ). map (λ (k : ℕ). given_of k a.outcome) (option_to_list h) in
    record {
      answers = c.answers ++ a ∷ [];
      given = map-append (λ (a : Answer). (a.worker, a.outcome)) c.answers (a ∷ []) ∙ ap (λ (gs : List (ℕ × Outcome)). gs ++ (a.worker, a.outcome) ∷ []) c.given;
      each = λ other.
          ap (λ (xs : List ℕ). xs ++ option_to_list (get_or (set m.hands a.worker None) other None)) (answered_more other c.answers a)
          ∙ hands_give m.hands other a (a.worker == other) refl within holds (answered_by other c.answers) (taken_of other takers puts) (c.each other);
      enough = c.enough;
      jobs = c.jobs;
      kept = map-append given_in c.answers (a ∷ [])
          ∙ ap (λ (gs : List GivenOutcome). gs ++ given_in a ∷ []) c.kept
          ∙ append_assoc m.ledger m.results (given_in a ∷ [])
          ∙ ap (λ (h : Option ℕ). m.ledger ++ (m.results ++ made h)) (sym holds);
      gathered = c.gathered;
      same = λ ticket.
          let gone : times ticket (option_to_list (get_or m.hands a.worker None)) ≡ times ticket (a.ticket ∷ []) = ap (λ (h : Option ℕ). times ticket (option_to_list h)) holds in
          let now : times ticket (tickets_of (m.results ++ made (hand_of m a.worker))) ≡ times ticket (tickets_of m.results) + times ticket (a.ticket ∷ []) =
          ap (λ (h : Option ℕ). times ticket (tickets_of (m.results ++ made h))) holds
          ∙ ap (times ticket) (map-append (λ (g : GivenOutcome). g.ticket) m.results (given_in a ∷ []))
          ∙ times-append ticket (tickets_of m.results) (a.ticket ∷ []) in
          omega (arith, times_in ticket (after m (Give a.worker a.outcome)), times_in ticket m, c.same ticket, held_set ticket m.hands a.worker None within, gone, now);
      once = c.once;
    }

pub counted_gather : (takers puts : List ℕ) (gives : List (ℕ × Outcome)) (gathers : ℕ) (m : State) → Counted takers puts gives gathers m → 0 < length m.results →
    Counted takers puts gives (gathers + 1) (after m Gather)
counted_gather takers puts gives gathers m c some =
    record {
      answers = c.answers;
      given = c.given;
      each = c.each;
      enough = c.enough;
      jobs = c.jobs;
      kept = c.kept ∙ sym (append_assoc m.ledger (take 1 m.results) (drop 1 m.results) ∙ ap (λ (gs : List GivenOutcome). m.ledger ++ gs) (take-append-drop 1 m.results));
      gathered = omega (arith, length-append m.ledger (take 1 m.results), length-take-le 1 m.results (omega (arith, some)), c.gathered);
      same = λ ticket.
          let cut : times ticket (tickets_of m.results) ≡ times ticket (tickets_of (take 1 m.results)) + times ticket (tickets_of (drop 1 m.results)) =
          ap (λ (gs : List GivenOutcome). times ticket (tickets_of gs)) (sym (take-append-drop 1 m.results))
          ∙ ap (times ticket) (map-append (λ (g : GivenOutcome). g.ticket) (take 1 m.results) (drop 1 m.results))
          ∙ times-append ticket (tickets_of (take 1 m.results)) (tickets_of (drop 1 m.results)) in
          let now : times ticket (tickets_of (m.ledger ++ take 1 m.results)) ≡ times ticket (tickets_of m.ledger) + times ticket (tickets_of (take 1 m.results)) =
          ap (times ticket) (map-append (λ (g : GivenOutcome). g.ticket) m.ledger (take 1 m.results)) ∙ times-append ticket (tickets_of m.ledger) (tickets_of (take 1 m.results)) in
          omega (arith, times_in ticket (after m Gather), times_in ticket m, c.same ticket, cut, now);
      once = c.once;
    }
