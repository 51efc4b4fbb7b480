-- What pieces leave of a reader's sources, beside what they bar, is all that it may read.
use Rattle.std.proofs.Common.{◌≡◌, ◌⊎◌, ◌<◌, ◌≤◌, ◌+◌, ℕ, List, [], ◌∷◌, ◌++◌, take, length, get_or, true, refl, ap, sym, ◌∙◌, arith, inl, inr, subst}
use Rattle.std.specs.Prelude.{Option, Some, None, IsSome, Bool}
use Rattle.std.specs.List.{All, Contains}
use Rattle.std.proofs.lemmas.Bool.{cases_eq}
use Rattle.std.proofs.lemmas.List.{take_more}
use Rattle.std.proofs.lemmas.List.Elements.{Contains-append_left, Contains-push_cases}
use Rattle.trace_semantics.proofs.ElementLemmas.{in_middle}
use Rattle.trace_semantics.specs.declared.operation.Op.{Op}
use Rattle.trace_semantics.specs.declared.operation.OpName.{OpName}
use Rattle.trace_semantics.specs.declared.operation.Origin.{Origin}
use Rattle.trace_semantics.specs.Operation.{location_of, value_read, origin_of}
use Rattle.trace_semantics.specs.Trace.{TraceValue, IsTrace, operation_at}
use Rattle.trace_semantics.specs.ValueAfter.{value_left_at}
use Rattle.trace_semantics.proofs.NameLemmas.{known_named, earlier_known}
use Rattle.writer_table.specs.declared.operation_place.OperationPlace.{OperationPlace}
use Rattle.writer_table.specs.declared.runs.Run.{Run}
use Rattle.writer_table.specs.declared.trace_writers.TraceWriters.{TraceWriters}
use Rattle.writer_table.specs.Writers.{HoldsWriters, runs_at}
use Rattle.order_reasons.specs.Sources.{AllowsWriter, IsBarred, IsInitialBarred, BarsSources}
use Rattle.order_clauses.specs.declared.order_pair.OrderPair.{OrderPair}
use Rattle.order_clauses.specs.Numbered.{named, IsKnown}
use Rattle.reason_clauses.specs.declared.barring.MainPiece.TheVariants.{Plain}
use Rattle.reason_clauses.specs.declared.pieces.ProcessPieces.{ProcessPieces}
use Rattle.reason_clauses.specs.declared.pieces.SourcePieces.{SourcePieces}
use Rattle.reason_clauses.specs.declared.stretches.Stretches.{Stretches}
use Rattle.reason_clauses.specs.Mains.{IsGivenMain}
use Rattle.reason_clauses.specs.Makers.{IsNumberOf}
use Rattle.reason_clauses.specs.Numbered.{AreIn, Grows, MakesSay, at_number, IsGivenFront, IsTaken, AreUpTo, AreTaken, BarsPlaces}
use Rattle.reason_clauses.specs.OwnLast.{IsOwnSource}
use Rattle.reason_clauses.specs.Pieces.{AreGiven}
use Rattle.reason_clauses.specs.StretchOrders.{IsTakenOrder, BeforeHidden, AfterHidden, FromLater, IsRestOrder, BeforeRest, AfterRest, RestToBetween, RestFromBetween, RestToReader, IsTakenRefused, TakenItself, TakenUnwitnessed, IsRestRefused}
use Rattle.reason_clauses.specs.declared.cause.ReasonCause.{ReasonCause}
use Rattle.reason_clauses.proofs.MakerLemmas.{number_known}
use Rattle.reason_clauses.proofs.NumberLemmas.{writes_by_number, numbers_apart}
use Rattle.reason_clauses.proofs.OwnLemmas.{left_known, in_table}
use Rattle.reason_clauses.proofs.SourceLemmas.{all_of, highest, front_given, table_known}
use Rattle.reason_counting.specs.declared.left_sources.LeftSources.{LeftSources}
use Rattle.reason_counting.specs.declared.left_sources.LeftStretch.{LeftStretch}
use Rattle.reason_counting.specs.Left.{without_main, AreMore, IsMainStretch, KeepsOnly, IsLeftAt, IsMainLeft, IsPlaceLeft, IsRunLeft, AreRunsLeft, IsStartLeft, IsLeftBy, AreSourcesLeft, IsLeft}

pub more_same : (left : List LeftStretch) → AreMore left left
more_same left x c = c

pub more_over : (a b c : List LeftStretch) → AreMore a b → AreMore b c → AreMore a c
more_over a b c f g x h = g x (f x h)

pub stretch_more : (left : List LeftStretch) (s : LeftStretch) → AreMore left (left ++ s ∷ [])
stretch_more left s x c = Contains-append_left left (s ∷ []) x c

-- the stretch that was appended is left
pub stretch_here : (left : List LeftStretch) (value process : ℕ) (s : Stretches) → IsMainLeft (left ++ (record { process = process; value = value; first = s.first; last = s.last }) ∷ []) value process s
stretch_here left value process s k some low high =
    (record { process = process; value = value; first = s.first; last = s.last }, in_middle left (record { process = process; value = value; first = s.first; last = s.last }) [], refl, refl, low, high)

pub keeps_none : (left : List LeftStretch) (Is : LeftStretch → Type 0) → KeepsOnly left left Is
keeps_none left Is x c = inl c

-- only the stretch that was appended is new
pub keeps_main : (left : List LeftStretch) (value process : ℕ) (s : Stretches) → 1 ≤ s.first → KeepsOnly left (left ++ (record { process = process; value = value; first = s.first; last = s.last }) ∷ []) (IsMainStretch value process s)
keeps_main left value process s some x c =
    elim (Contains-push_cases left (record { process = process; value = value; first = s.first; last = s.last }) x c) [
      | inl d ↦ inl d
      | inr e ↦ inr (subst (λ (y : LeftStretch). IsMainStretch value process s y) e (record { some = some; value_is = refl; process_is = refl; first_is = refl; last_is = refl }))
    ]

pub keeps_over : (old mid new : List LeftStretch) (P Q : LeftStretch → Type 0) → ((x : LeftStretch) → P x → Q x) → KeepsOnly old mid Q → KeepsOnly mid new P → KeepsOnly old new Q
keeps_over old mid new P Q weaker first second x c = elim (second x c) [
  | inl d ↦ first x d
  | inr h ↦ inr (weaker x h)
]

-- without the main stretch no orders of it are asked for
pub taken_orders : (r : OperationPlace) (process : ℕ) (s : Stretches) (witness : Option OperationPlace) (o : OrderPair) → IsTakenOrder r process (without_main s) witness o ⊎ IsRestOrder r process (without_main s) Plain o → IsTakenOrder r process s witness o
taken_orders r process s witness o (inl (BeforeHidden x some is h)) = BeforeHidden x some is h
taken_orders r process s witness o (inl (AfterHidden x some is h)) = AfterHidden x some is h
taken_orders r process s witness o (inl (FromLater some h)) = FromLater some h
taken_orders r process s witness o (inr (BeforeRest x some is h)) = absurd (omega (arith, some))
taken_orders r process s witness o (inr (AfterRest x some is h)) = absurd (omega (arith, some))
taken_orders r process s witness o (inr (RestToBetween u some is h)) = absurd (omega (arith, some))
taken_orders r process s witness o (inr (RestFromBetween u some is h)) = absurd (omega (arith, some))
taken_orders r process s witness o (inr (RestToReader some is h)) = absurd (omega (arith, some))

-- nor is it refused
pub taken_refusals : (process : ℕ) (s : Stretches) (witness : Option OperationPlace) (cause : ReasonCause) → IsTakenRefused process (without_main s) witness cause ⊎ IsRestRefused process (without_main s) Plain cause → IsTakenRefused process s witness cause
taken_refusals process s witness cause (inl (TakenItself some is e)) = TakenItself some is e
taken_refusals process s witness cause (inl (TakenUnwitnessed some is e)) = TakenUnwitnessed some is e
taken_refusals process s witness cause (inr h) = absurd (let some = h.0 in omega (arith, some))

-- the place that was appended is left
pub one_here : (left : List LeftStretch) (value process place : ℕ) → IsLeftAt (left ++ (record { process = process; value = value; first = place; last = place }) ∷ []) value process place
one_here left value process place = (record { process = process; value = value; first = place; last = place }, in_middle left (record { process = process; value = value; first = place; last = place }) [], refl, refl, omega arith, omega arith)

module _ (t : TraceValue) (ok : IsTrace t) (new : List OrderPair) (left : List LeftStretch) (value : ℕ) (r : OperationPlace) (pieces : SourcePieces) where
  -- a place up to n that a stretch takes is barred, or it is left
  place_left : (q n place : ℕ) (s : Stretches) (piece : ProcessPieces) → BarsPlaces new r q (λ u l v. IsGivenFront u l v r piece.witness × IsGivenMain u l v r Plain) (AreTaken (without_main s)) → Contains pieces.processes.items piece ⊎ (piece.witness ≡ None) → IsMainLeft left value q s →
      1 ≤ place → place ≤ n → AreUpTo s n → IsTaken s place → ((k : ℕ) → 1 ≤ k → k ≤ n → IsKnown t (at_number q k)) →
      (clause : List (OpName × OpName)) (location : List ℕ) (d : ℕ) → AreIn t new clause → IsKnown t r → AreGiven t location d r pieces → IsBarred t clause location d (named t r) (named t (at_number q place)) ⊎ IsLeftAt left value q place
  place_left q n place s piece bars listed main least low most (inl h) known clause location d all r_known given =
      inl (bars t clause location d n (numbers_apart t ok) all r_known known (front_given t location d r pieces piece listed given, tt) place least low ((most.0, most.1, omega arith, omega arith), inl h))
  place_left q n place s piece bars listed main least low most (inr (inl h)) known clause location d all r_known given =
      inl (bars t clause location d n (numbers_apart t ok) all r_known known (front_given t location d r pieces piece listed given, tt) place least low ((most.0, most.1, omega arith, omega arith), inr (inl h)))
  place_left q n place s piece bars listed main least low most (inr (inr h)) known clause location d all r_known given = inr (main place h.0 h.1 h.2)

  -- the source in the reader's own process
  pub own_place_left : (q place : ℕ) (s : Stretches) (piece : ProcessPieces) → BarsPlaces new r q (λ u l v. IsGivenFront u l v r piece.witness × IsGivenMain u l v r Plain) (AreTaken (without_main s)) → Contains pieces.processes.items piece ⊎ (piece.witness ≡ None) → IsMainLeft left value q s →
      1 ≤ place → AreUpTo s place → IsTaken s place → IsPlaceLeft t new left value r pieces (at_number q place)
  own_place_left q place s piece bars listed main least most taken clause location d all r_known given known =
      place_left q place place s piece bars listed main least (omega arith) most taken
      (λ k low high. (known.0, earlier_known t ok (named t (at_number q k)) (named t (at_number q place)) known.1 refl low high)) clause location d all r_known given

  -- the sources in a run
  pub run_left : (origin : Origin) (own : ℕ) (run : Run) (s : Stretches) (piece : ProcessPieces) → BarsPlaces new r run.process (λ u l v. IsGivenFront u l v r piece.witness × IsGivenMain u l v r Plain) (AreTaken (without_main s)) → Contains pieces.processes.items piece ⊎ (piece.witness ≡ None) → IsMainLeft left value run.process s →
      (All (λ p. 1 ≤ p) run.places → (k : ℕ) → IsKnown t (at_number run.process k) → Contains run.places k → AllowsWriter origin (named t (at_number run.process k)) → IsTaken s k) → ((n : ℕ) → All (λ p. p ≤ n) run.places → AreUpTo s n) → IsRunLeft t new left value r origin own pieces run
  run_left origin own run s piece bars listed main taken most runs k there allowed own_is clause location d all r_known given known =
      place_left run.process top.0 k s piece bars listed main (least k there) (top.2 k there) (most top.0 (all_of (λ p. p ≤ top.0) run.places top.2)) (taken (all_of (λ p. 1 ≤ p) run.places least) k known there allowed)
      (λ j low high. (known.0, earlier_known t ok (named t (at_number run.process j)) (named t (at_number run.process top.0)) (runs top.0 top.1).1 refl low high)) clause location d all r_known given
    where
      top : (n : ℕ) × Contains run.places n × ((p : ℕ) → Contains run.places p → p ≤ n)
      top = highest run.places k there

      least : (j : ℕ) → Contains run.places j → 1 ≤ j
      least j c = (known_named t (named t (at_number run.process j)) (runs j c).1).least

left_more : (old new : List LeftStretch) (value process place : ℕ) → AreMore old new → IsLeftAt old value process place → IsLeftAt new value process place
left_more old new value process place more (x, c, value_is, process_is, least, most) = (x, more x c, value_is, process_is, least, most)

pub either_more : (B : Type 0) (old new : List LeftStretch) (value process place : ℕ) → AreMore old new → B ⊎ IsLeftAt old value process place → B ⊎ IsLeftAt new value process place
either_more B old new value process place more (inl b) = inl b
either_more B old new value process place more (inr h) = inr (left_more old new value process place more h)

-- the runs so far, and one more
pub left_runs_more : (t : TraceValue) (old new : List OrderPair) (left more : List LeftStretch) (value : ℕ) (r : OperationPlace) (origin : Origin) (own : ℕ) (pieces : SourcePieces) (runs : List Run) (i : ℕ) (run : Run) → i < length runs → get_or runs i run ≡ run → Grows old new → AreMore left more →
    AreRunsLeft t old left value r origin own pieces (take i runs) → IsRunLeft t new more value r origin own pieces run → AreRunsLeft t new more value r origin own pieces (take (i + 1) runs)
left_runs_more t old new left more value r origin own pieces runs i run low at grows kept so here other c =
    elim (Contains-push_cases (take i runs) run other (subst (λ l. Contains l other) (take_more runs i run low ∙ ap (λ x. take i runs ++ x ∷ []) at) c)) [
      | inl before ↦ (λ known k there allowed own_is clause location d all r_known given n_known.
          either_more (IsBarred t clause location d (named t r) (named t (at_number other.process k))) left more value other.process k kept (so other before known k there allowed own_is clause location d (grows t clause all) r_known given n_known))
      | inr e ↦ subst (λ (x : Run). IsRunLeft t new more value r origin own pieces x) e here
    ]

-- what is left of the runs of the table and of the reader's own process, beside what is barred, is all that the reader may read
module _ (t : TraceValue) (ok : IsTrace t) (writers : TraceWriters) (holds : HoldsWriters t writers) (mid new : List OrderPair) (left : List LeftStretch) (r : OperationPlace) (origin : Origin) (own : ℕ) (pieces : SourcePieces) (location : List ℕ) (d : ℕ) (own_source : IsOwnSource t r origin location d own)
    (runs : AreRunsLeft t mid left d r origin own pieces (runs_at writers location d)) (grows : Grows mid new) where
  -- what is left at a place of a run is left by name
  by_stretch : (clause : List (OpName × OpName)) (run : Run) (k : ℕ) → Contains (runs_at writers location d) run → Contains run.places k → IsBarred t clause location d (named t r) (named t (at_number run.process k)) ⊎ IsLeftAt left d run.process k →
      IsBarred t clause location d (named t r) (named t (at_number run.process k)) ⊎ IsLeftBy t writers location left (named t (at_number run.process k))
  by_stretch clause run k listed there (inl b) = inl b
  by_stretch clause run k listed there (inr (x, kept, value, process, least, most)) =
      inr (record {
        stretch = x;
        kept = kept;
        run = run;
        listed = subst (λ v. Contains (runs_at writers location v) run) (sym value) listed;
        process = process;
        place = k;
        there = there;
        least = least;
        most = most;
        named_so = refl;
      })

  by_run : (clause : List (OpName × OpName)) → AreIn t new clause → IsKnown t r → AreGiven t location d r pieces → (w : OpName) → value_left_at t location w ≡ Some d → AllowsWriter origin w → (run : Run) (k : ℕ) → run.process < length t.processes → Contains (runs_at writers location d) run → Contains run.places k →
      named t (at_number run.process k) ≡ w → IsBarred t clause location d (named t r) w ⊎ IsLeftBy t writers location left w
  by_run clause all r_known given w leaves allowed run k low listed there same =
      subst (λ x. IsBarred t clause location d (named t r) x ⊎ IsLeftBy t writers location left x) same (
      elim (cases_eq run.process r.process) [
        | inr other ↦ at_place (λ e. absurd (other e))
        | inl e ↦ elim (own_source k clause r_known (subst (λ q. IsKnown t (at_number q k)) e known) (subst (λ q. AllowsWriter origin (named t (at_number q k))) e allowed_there) (subst (λ q. value_left_at t location (named t (at_number q k)) ≡ Some d) e leaves_there)) [
          | inl is ↦ at_place (λ s. is)
          | inr b ↦ inl (subst (λ q. IsBarred t clause location d (named t r) (named t (at_number q k))) (sym e) b)
        ]
      ])
    where
      known : IsKnown t (at_number run.process k)
      known = (low, subst (λ x. IsSome (operation_at t x)) (sym same) (left_known t location d w leaves))

      allowed_there : AllowsWriter origin (named t (at_number run.process k))
      allowed_there = subst (λ x. AllowsWriter origin x) (sym same) allowed

      leaves_there : value_left_at t location (named t (at_number run.process k)) ≡ Some d
      leaves_there = subst (λ x. value_left_at t location x ≡ Some d) (sym same) leaves

      at_place : (run.process ≡ r.process → k ≡ own) → IsBarred t clause location d (named t r) (named t (at_number run.process k)) ⊎ IsLeftBy t writers location left (named t (at_number run.process k))
      at_place own_is = by_stretch clause run k listed there (runs run listed (table_known t ok writers holds location d run listed) k there allowed_there own_is clause location d (grows t clause all) r_known given known)

  pub sources_left_by : (is_left : Bool) → IsStartLeft t new is_left r origin pieces location d → AreSourcesLeft t writers new left is_left r origin pieces location d
  sources_left_by is_left start = record {
    writers = λ clause all r_known given w leaves allowed. (
        let at = writes_by_number t location w d leaves in
        let n = at_number at.number (at.place + 1) in
        let found = in_table t ok writers holds n location d at.low (subst (λ x. value_left_at t location x ≡ Some d) (sym at.named_so) leaves) in
        by_run clause all r_known given w leaves allowed found.0 (at.place + 1) (subst (λ q. q < length t.processes) (sym found.2) at.low) found.1 found.3 (ap (λ q. named t (at_number q (at.place + 1))) found.2 ∙ at.named_so));
    initial = start;
  }

-- a witness after the reader bars the initial value
pub start_left_by : (t : TraceValue) (new : List OrderPair) (r x : OperationPlace) (origin : Origin) (pieces : SourcePieces) (location : List ℕ) (d : ℕ) (is_left : Bool) → pieces.initial ≡ Some x → MakesSay new r x → IsStartLeft t new is_left r origin pieces location d
start_left_by t new r x origin pieces location d is_left e says clause all known given held allowed =
    let is = given.initial x e in
    inl (record { witness = named t x; witnesses = is.1; other = is.2; says = says t clause all known is.0 })

initial_left : (left : LeftSources) (location : List ℕ) (B : Type 0) → left.location.now ≡ location → B ⊎ (left.is_initial_left ≡ true) → B ⊎ ((left.is_initial_left ≡ true) × (location ≡ left.location.now))
initial_left left location B e (inl b) = inl b
initial_left left location B e (inr h) = inr (h, sym e)

reader_left_at : (t : TraceValue) (writers : TraceWriters) (new : List OrderPair) (left : LeftSources) (r : OperationPlace) (op : Op) (d : ℕ) (pieces : SourcePieces) → left.location.now ≡ location_of op → IsNumberOf t r op → value_read op ≡ Some d → (IsKnown t r → AreGiven t (location_of op) d r pieces) →
    AreSourcesLeft t writers new left.stretches.items left.is_initial_left r (origin_of op) pieces (location_of op) d → (clause : List (OpName × OpName)) → AreIn t new clause → BarsSources t clause (named t r) (IsLeft t writers left)
reader_left_at t writers new left r op d pieces same number reads given sources clause all =
    let known = number_known t r op number in
    record {
      op = op;
      value = d;
      known = number.1;
      reads = reads;
      writers = λ w leaves allowed.
          subst (λ a. IsBarred t clause (location_of op) d (named t r) w ⊎ IsLeftBy t writers a left.stretches.items w) (sym same) (sources.writers clause all known (given known) w leaves allowed);
      initial = λ held allowed. initial_left left (location_of op) (IsInitialBarred t clause (location_of op) d (named t r)) same (sources.initial clause all known (given known) held allowed);
    }

-- by the operation: its sources are barred, or left
pub reader_left : (t : TraceValue) (writers : TraceWriters) (new : List OrderPair) (left : LeftSources) (r : OperationPlace) (op : Op) (d : ℕ) (location : List ℕ) (origin : Origin) (pieces : SourcePieces) → location ≡ location_of op → left.location.now ≡ location → origin ≡ origin_of op → IsNumberOf t r op → value_read op ≡ Some d →
    (IsKnown t r → AreGiven t location d r pieces) → AreSourcesLeft t writers new left.stretches.items left.is_initial_left r origin pieces location d → (clause : List (OpName × OpName)) → AreIn t new clause → BarsSources t clause (named t r) (IsLeft t writers left)
reader_left t writers new left r op d location origin pieces place same said number reads given sources =
    reader_left_at t writers new left r op d pieces (same ∙ place) number reads (subst (λ l. IsKnown t r → AreGiven t l d r pieces) place given)
    (subst (λ l. AreSourcesLeft t writers new left.stretches.items left.is_initial_left r (origin_of op) pieces l d) place (subst (λ o. AreSourcesLeft t writers new left.stretches.items left.is_initial_left r o pieces location d) said sources))
