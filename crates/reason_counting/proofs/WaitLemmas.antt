-- Operations of which each waits for one of them are a waiting set.
use Rattle.std.proofs.Common.{◌≡◌, ◌⊎◌, ◌<◌, ◌≤◌, ◌+◌, ℕ, List, [], ◌∷◌, ◌++◌, map, length, get_or, replicate, set, take, take_all, true, false, refl, ap, sym, ◌∙◌, arith, inl, inr, subst}
use Rattle.std.specs.Prelude.{IsSome}
use Rattle.std.specs.List.{Contains}
use Rattle.std.proofs.lemmas.Bool.{cases_order}
use Rattle.std.proofs.lemmas.List.{get_or_default, get_or_past, get_or-replicate, length-replicate, get_or-set_same, get_or-set_other, map-append, take_more}
use Rattle.std.proofs.lemmas.List.Elements.{All-contains, Contains-append_left}
use Rattle.trace_semantics.specs.declared.operation.OpName.{OpName}
use Rattle.trace_semantics.specs.Operation.{location_of}
use Rattle.trace_semantics.specs.Trace.{TraceValue, IsTrace, operation_at}
use Rattle.trace_semantics.proofs.ElementLemmas.{in_middle, from_map, none_in, to_map}
use Rattle.trace_semantics.proofs.NameLemmas.{earlier_known, known_named}
use Rattle.forced_order.specs.Order.{IsInProgramOrder}
use Rattle.writer_table.specs.declared.operation_place.OperationPlace.{OperationPlace}
use Rattle.writer_table.specs.declared.trace_writers.TraceWriters.{TraceWriters}
use Rattle.order_clauses.specs.declared.order_pair.OrderPair.{OrderPair}
use Rattle.order_clauses.specs.Numbered.{named, IsKnown}
use Rattle.order_reasons.specs.Reasons.{IsUpTo}
use Rattle.order_reasons.specs.Sources.{LeftBy, InitialAt, IsBarred, IsInitialBarred, BarsSources}
use Rattle.order_reasons.specs.Waiting.{ComesLater, ForOperation, ForSource, IsBehindOne, IsWaitingClause, Waits}
use Rattle.reason_clauses.specs.declared.cause.ReasonCause.{ReasonCause}
use Rattle.reason_clauses.specs.declared.pieces.SourcePieces.{SourcePieces}
use Rattle.reason_clauses.specs.Numbered.{AreIn, Grows, MakesSay, at_number}
use Rattle.reason_clauses.proofs.NumberLemmas.{numbers_apart}
use Rattle.reason_clauses.proofs.NumberedLemmas.{up_to}
use Rattle.reason_clauses.proofs.OwnLemmas.{left_known}
use Rattle.reason_counting.specs.declared.left_sources.LeftSources.{LeftSources}
use Rattle.reason_counting.specs.declared.left_sources.LeftStretch.{LeftStretch}
use Rattle.reason_counting.specs.declared.waiting.Waiter.{Waiter}
use Rattle.reason_counting.specs.Left.{IsLeft, IsLeftBy}
use Rattle.reason_counting.specs.OtherSources.{AreOthers}
use Rattle.reason_counting.specs.WaitingRefused.{BySource, IsSomeBehindRefused, IsSourceWaitRefused, MayComeFirst}
use Rattle.reason_counting.specs.WaitingSet.{AreBehind, AreFirst, AreFirstKnown, HoldMembers, IsStretchBehind, MustWait, operations_of}

-- one member more, of which the table says nothing, or whose place it has
pub members_more : (members : List OperationPlace) (n : OperationPlace) (first : List ℕ) → HoldMembers members first → HoldMembers (members ++ n ∷ []) first
members_more members n first h q some = Contains-append_left members (n ∷ []) (at_number q (get_or first q 0)) (h q some)

-- the table has the place of the new member for its process
pub members_with : (members : List OperationPlace) (n : OperationPlace) (first : List ℕ) → n.process < length first → HoldMembers members first → HoldMembers (members ++ n ∷ []) (set first n.process n.place)
members_with members n first low h q some =
    elim (cases_order q n.process) [
      | inl e ↦ subst (λ k. Contains (members ++ n ∷ []) k) (here e) (in_middle members n [])
      | inr (inl less) ↦ other (λ e. omega (arith, less, e))
      | inr (inr more) ↦ other (λ e. omega (arith, more, e))
    ]
  where
    here : q ≡ n.process → n ≡ at_number q (get_or (set first n.process n.place) q 0)
    here e =
        let place : n.place ≡ get_or (set first n.process n.place) q 0 = sym (ap (λ j. get_or (set first n.process n.place) j 0) e ∙ get_or-set_same first n.process n.place 0 low) in
        λ i. record { process = sym e i; place = place i }

    other : (q ≡ n.process → ⊥) → Contains (members ++ n ∷ []) (at_number q (get_or (set first n.process n.place) q 0))
    other apart =
        let kept : get_or (set first n.process n.place) q 0 ≡ get_or first q 0 = get_or-set_other first n.process q n.place 0 apart in
        subst (λ k. Contains (members ++ n ∷ []) (at_number q k)) (sym kept) (members_more members n first h q (omega (arith, some, kept)))

pub no_waiters : (waiters : List Waiter) → length waiters ≡ 0 → waiters ≡ []
no_waiters [] e = refl
no_waiters (first ∷ rest) e = absurd (cc)

-- a table of zeros has the place of no member
pub no_places : (n : ℕ) (first : List ℕ) → first ≡ replicate n 0 → HoldMembers [] first
no_places n first e q some = absurd (let zero_there : get_or first q 0 ≡ 0 = ap (λ l. get_or l q 0) e ∙ zero_at in omega (arith, some, zero_there))
  where
    zero_at : get_or {A = ℕ} (replicate n 0) q 0 ≡ 0
    zero_at = elim (cases_order q n) [
      | inl same ↦ get_or_past (replicate n 0) q 0 (let long = length-replicate {A = ℕ} n 0 in omega (arith, same, long))
      | inr (inl low) ↦ get_or-replicate n q 0 0 low
      | inr (inr high) ↦ get_or_past (replicate n 0) q 0 (let long = length-replicate {A = ℕ} n 0 in omega (arith, high, long))
    ]

pub no_members : (first : List ℕ) → AreFirst [] first
no_members first m c inside some = absurd (none_in m c)

pub first_next : (waiters : List Waiter) (n : ℕ) (waiter : Waiter) (first : List ℕ) → n < length waiters → AreFirst (operations_of (take n waiters) ++ (get_or waiters n waiter).operation ∷ []) first → AreFirst (operations_of (take (n + 1) waiters)) first
first_next waiters n waiter first low h =
    subst (λ l. AreFirst l first) (sym (ap operations_of (take_more waiters n waiter low) ∙ map-append (λ (w : Waiter). w.operation) (take n waiters) (get_or waiters n waiter ∷ []))) h

pub first_all : (waiters : List Waiter) (n : ℕ) (first : List ℕ) → length waiters ≤ n → AreFirst (operations_of (take n waiters)) first → AreFirst (operations_of waiters) first
first_all waiters n first most h = subst (λ l. AreFirst (operations_of l) first) (take_all n waiters most) h

-- a table that has a place for each process of the trace
pub first_known : (t : TraceValue) (members : List OperationPlace) (first : List ℕ) → length first ≡ length t.processes → AreFirst members first → AreFirstKnown t members first
first_known t members first long h m c known = h m c (let low = known.0 in omega (arith, long, low)) (known_named t (named t m) known.1).least

-- where the table has no place for a process, or a later one, all members there come after the operation
pub may_come_first : (t : TraceValue) (members : List OperationPlace) (first : List ℕ) (n : OperationPlace) (place : ℕ) → AreFirstKnown t members first → place ≡ get_or first n.process 0 → (place ≡ 0) ⊎ (n.place < place) → MayComeFirst t members n
may_come_first t members first n place h e before m c known same =
    let at = h m c known in
    let is : get_or first m.process 0 ≡ place = ap (λ q. get_or first q 0) same ∙ sym e in
    elim before [
      | inl none ↦ absurd (let some = at.0 in omega (arith, some, is, none))
      | inr less ↦ (let most = at.1 in omega (arith, less, is, most))
    ]

-- the least place of its process that a member has is that of a member
pub behind_member : (t : TraceValue) → IsTrace t → (members : List OperationPlace) (first : List ℕ) (n : OperationPlace) (place : ℕ) → HoldMembers members first → place ≡ get_or first n.process 0 → 1 ≤ place → place ≤ n.place → IsKnown t n →
    IsBehindOne t (map (named t) members) (named t n)
behind_member t ok members first n place h e some low known =
    let z_known : IsKnown t (at_number n.process place) = (known.0, earlier_known t ok (named t (at_number n.process place)) (named t n) known.1 refl some low) in
    let there : Contains members (at_number n.process place) = subst (λ k. Contains members (at_number n.process k)) (sym e) (h n.process (omega (arith, e, some))) in
    (named t (at_number n.process place), to_map (named t) members (at_number n.process place) there, up_to t (at_number n.process place) n z_known known refl low)

-- an operation that waits for another one, which is a member or comes after one
pub waits_for : (t : TraceValue) → IsTrace t → (members : List OperationPlace) (new : List OrderPair) (x y : OperationPlace) → (x ≡ y → ⊥) → IsKnown t x → IsKnown t y → IsBehindOne t (map (named t) members) (named t y) → MakesSay new x y → MustWait t new members x
waits_for t ok members new x y other x_known y_known behind says clause all =
    ForOperation (named t y) (λ same. other (numbers_apart t ok x y x_known y_known same)) x_known.1 behind (says t clause all x_known y_known)

up_over : (t : TraceValue) (x y z : OpName) → IsUpTo t x y → IsUpTo t y z → IsUpTo t x z
up_over t x y z (inl e) h = subst (λ k. IsUpTo t k z) (sym e) h
up_over t x y z (inr h) (inl e) = inr (subst (λ k. IsInProgramOrder t x k) e h)
up_over t x y z (inr h) (inr k) = inr (record { first = h.first; second = k.second; process = h.process ∙ k.process; lower = (let one = h.lower in let two = k.lower in omega (arith, one, two)) })

-- what is left of a reader's sources comes later
left_later : (t : TraceValue) (writers : TraceWriters) (members : List OperationPlace) (location : List ℕ) (left : List LeftStretch) (w : OpName) → IsSome (operation_at t w) → AreBehind t members left → IsLeftBy t writers location left w → IsBehindOne t (map (named t) members) w
left_later t writers members location left w known behind by =
    let at = All-contains (λ (x : LeftStretch). IsStretchBehind t members x) left by.stretch behind by.kept in
    let n = at_number by.stretch.process by.stretch.first in
    let m = at_number by.run.process by.place in
    let m_known : IsKnown t m = (subst (λ q. q < length t.processes) by.process at.0.0, subst (λ x. IsSome (operation_at t x)) (sym by.named_so) known) in
    let up : IsUpTo t (named t n) w = subst (λ x. IsUpTo t (named t n) x) by.named_so (up_to t n m at.0 m_known by.process by.least) in
    (at.1.0, at.1.1, up_over t at.1.0 (named t n) w at.1.2 up)

or_later : (B : Type 0) (P Q : Type 0) → (P → Q) → B ⊎ P → B ⊎ Q
or_later B P Q f (inl b) = inl b
or_later B P Q f (inr h) = inr (f h)

-- a reader whose sources are barred, or left and not first
pub waits_for_source : (t : TraceValue) (writers : TraceWriters) (members : List OperationPlace) (new : List OrderPair) (r : OperationPlace) (left : LeftSources) → left.is_initial_left ≡ false → AreBehind t members left.stretches.items →
    ((clause : List (OpName × OpName)) → AreIn t new clause → BarsSources t clause (named t r) (IsLeft t writers left)) → MustWait t new members r
waits_for_source t writers members new r left none behind bars clause all =
    let b = bars clause all in
    ForSource (record {
      op = b.op;
      value = b.value;
      known = b.known;
      reads = b.reads;
      writers = λ w leaves allowed. or_later (IsBarred t clause (location_of b.op) b.value (named t r) w) (IsLeft t writers left (LeftBy w)) (ComesLater t (map (named t) members) (LeftBy w))
          (left_later t writers members left.location.now left.stretches.items w (left_known t (location_of b.op) b.value w leaves) behind) (b.writers w leaves allowed);
      initial = λ held allowed. or_later (IsInitialBarred t clause (location_of b.op) b.value (named t r)) (IsLeft t writers left (InitialAt (location_of b.op))) (ComesLater t (map (named t) members) (InitialAt (location_of b.op)))
          (λ h. absurd (let is = h.0 in let clash : true ≡ false = sym is ∙ none in cc)) (b.initial held allowed);
    })

-- a stretch of sources that no piece takes is refused for its first source
pub source_first : (t : TraceValue) (members : List OperationPlace) (r : OperationPlace) (pieces : SourcePieces) (left : LeftSources) → AreOthers t r pieces left → (cause : ReasonCause) → IsSomeBehindRefused t members left.stretches.items cause → IsSourceWaitRefused t members r pieces cause
source_first t members r pieces left others cause (x, listed, inl missing) = absurd (missing.0 (others.stretches x listed).first.known)
source_first t members r pieces left others cause (x, listed, inr (before, e)) =
    let other = others.stretches x listed in
    BySource others.op others.value (at_number x.process x.first) others.number others.reads other.first other.first_other before e

pub waits_more : (t : TraceValue) (old new : List OrderPair) (members : List OperationPlace) (x : OperationPlace) → Grows old new → MustWait t old members x → MustWait t new members x
waits_more t old new members x grows h clause all = h clause (grows t clause all)

-- the first n of these wait
abbrev pub AreWaiting : TraceValue → List OrderPair → List Waiter → ℕ → Type 0
AreWaiting t new waiters n = (j : ℕ) (d : Waiter) → j < n → MustWait t new (operations_of waiters) (get_or waiters j d).operation

pub waiting_next : (t : TraceValue) (old new : List OrderPair) (waiters : List Waiter) (n : ℕ) (waiter : Waiter) → Grows old new → AreWaiting t old waiters n → n < length waiters → get_or waiters n waiter ≡ waiter → MustWait t new (operations_of waiters) waiter.operation → AreWaiting t new waiters (n + 1)
waiting_next t old new waiters n waiter grows so low at h j d less =
    elim (cases_order j n) [
      | inl e ↦ subst (λ (w : Waiter). MustWait t new (operations_of waiters) w.operation) (sym (ap (λ i. get_or waiters i d) e ∙ get_or_default waiters n d waiter low ∙ at)) h
      | inr (inl lower) ↦ waits_more t old new (operations_of waiters) (get_or waiters j d).operation grows (so j d lower)
      | inr (inr higher) ↦ absurd (omega (arith, less, higher))
    ]

pub members_next : (waiters : List Waiter) (n : ℕ) (waiter : Waiter) (first : List ℕ) → n < length waiters → HoldMembers (operations_of (take n waiters) ++ (get_or waiters n waiter).operation ∷ []) first → HoldMembers (operations_of (take (n + 1) waiters)) first
members_next waiters n waiter first low h =
    subst (λ l. HoldMembers l first) (sym (ap operations_of (take_more waiters n waiter low) ∙ map-append (λ (w : Waiter). w.operation) (take n waiters) (get_or waiters n waiter ∷ []))) h

pub members_all : (waiters : List Waiter) (n : ℕ) (first : List ℕ) → length waiters ≤ n → HoldMembers (operations_of (take n waiters)) first → HoldMembers (operations_of waiters) first
members_all waiters n first most h = subst (λ l. HoldMembers (operations_of l) first) (take_all n waiters most) h

-- the members are some, and each waits
pub waiting_by : (t : TraceValue) (new : List OrderPair) (waiters : List Waiter) → (length waiters ≡ 0 → ⊥) → AreWaiting t new waiters (length waiters) → (clause : List (OpName × OpName)) → AreIn t new clause → IsWaitingClause t clause (map (named t) (operations_of waiters))
waiting_by t new [] some so clause all = absurd (some refl)
waiting_by t new (first ∷ rest) some so clause all = record { some = λ e. absurd (cc); each = member }
  where
    member : (x : OpName) → Contains (map (named t) (operations_of (first ∷ rest))) x → Waits t clause (map (named t) (operations_of (first ∷ rest))) x
    member x c =
        let at = from_map (named t) (operations_of (first ∷ rest)) x c in
        let waiter = from_map (λ (w : Waiter). w.operation) (first ∷ rest) at.0 at.1 in
        let index = waiter.1 in
        let waits : MustWait t new (operations_of (first ∷ rest)) at.0 = subst (λ (k : OperationPlace). MustWait t new (operations_of (first ∷ rest)) k) (ap (λ (w : Waiter). w.operation) index.2 ∙ waiter.2) (so index.0 waiter.0 index.1) in
        subst (λ y. Waits t clause (map (named t) (operations_of (first ∷ rest))) y) at.2 (waits clause all)
