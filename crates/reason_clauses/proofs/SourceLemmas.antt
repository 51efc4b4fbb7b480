-- What the runs of writers leave barred is all that a reader may read.
use Rattle.std.proofs.Common.{◌≡◌, ◌⊎◌, ◌<◌, ◌≤◌, ◌+◌, ◌-◌, ℕ, List, [], ◌∷◌, ◌++◌, take, length, get_or, refl, ap, sym, ◌∙◌, arith, inl, inr, subst}
use Rattle.std.specs.Prelude.{Option, Some, None, IsSome}
use Rattle.std.specs.List.{All, Contains}
use Rattle.std.proofs.lemmas.Bool.{cases_lt, cases_eq}
use Rattle.std.proofs.lemmas.List.{take_more, get_or_default}
use Rattle.std.proofs.lemmas.List.Elements.{All-push, All-contains, All-contains_itself, Contains-push_cases}
use Rattle.std.proofs.lemmas.Option.{slice_get-get_or}
use Rattle.trace_semantics.specs.declared.operation.Op.{Op}
use Rattle.trace_semantics.specs.declared.operation.Op.TheVariants.{Write}
use Rattle.trace_semantics.specs.declared.operation.OpName.{OpName}
use Rattle.trace_semantics.specs.declared.operation.Origin.{Origin}
use Rattle.trace_semantics.specs.Operation.{location_of, value_read, origin_of}
use Rattle.trace_semantics.specs.Trace.{TraceValue, IsTrace, operation_at}
use Rattle.trace_semantics.specs.ValueAfter.{value_left_at}
use Rattle.trace_semantics.proofs.ElementLemmas.{head_in, tail_in, none_in, cases_in}
use Rattle.trace_semantics.proofs.NameLemmas.{known_named, earlier_known}
use Rattle.writer_table.specs.declared.operation_place.OperationPlace.{OperationPlace}
use Rattle.writer_table.specs.declared.runs.Run.{Run}
use Rattle.writer_table.specs.declared.trace_writers.TraceWriters.{TraceWriters}
use Rattle.writer_table.specs.Writers.{HoldsWriters, runs_at}
use Rattle.order_reasons.specs.Orders.{HoldsOfSchedules}
use Rattle.order_reasons.specs.Sources.{AllowsWriter, IsBarred, IsSourceClause}
use Rattle.order_reasons.proofs.SourceReasons.{sources_barred}
use Rattle.order_clauses.specs.declared.order_pair.OrderPair.{OrderPair}
use Rattle.order_clauses.specs.Numbered.{named, named_orders, IsKnown}
use Rattle.reason_clauses.specs.declared.barring.MainPiece.{MainPiece}
use Rattle.reason_clauses.specs.declared.pieces.ProcessPieces.{ProcessPieces}
use Rattle.reason_clauses.specs.declared.pieces.SourcePieces.{SourcePieces}
use Rattle.reason_clauses.specs.declared.stretches.Stretches.{Stretches}
use Rattle.reason_clauses.specs.Barred.{IsPlaceBarred, IsKnownRun, IsRunBarred, AreRunsBarred, IsStartBarred, AreSourcesBarred}
use Rattle.reason_clauses.specs.Made.{Makes}
use Rattle.reason_clauses.specs.Mains.{IsGivenMain}
use Rattle.reason_clauses.specs.Makers.{IsNumberOf}
use Rattle.reason_clauses.specs.Numbered.{AreIn, Grows, MakesSay, at_number, IsGivenFront, IsTaken, AreUpTo, AreTaken, BarsPlaces}
use Rattle.reason_clauses.specs.OwnLast.{IsOwnSource}
use Rattle.reason_clauses.specs.Pieces.{AreGiven}
use Rattle.reason_clauses.proofs.MakerLemmas.{number_known, number_of_operation}
use Rattle.reason_clauses.proofs.NumberLemmas.{writes_by_number, numbers_apart, nobody}
use Rattle.reason_clauses.proofs.OwnLemmas.{left_known, in_table}

module _ {X : Type 0} where
  -- one element more
  pub all_more : (P : X → Type 0) (xs : List X) (i : ℕ) (d : X) → i < length xs → All P (take i xs) → P (get_or xs i d) → All P (take (i + 1) xs)
  all_more P xs i d low all here = subst (λ l. All P l) (sym (take_more xs i d low)) (All-push P (take i xs) (get_or xs i d) all here)

  -- what is so of each is so of all
  pub all_of : (P : X → Type 0) (xs : List X) → ((x : X) → Contains xs x → P x) → All P xs
  all_of P xs each i d low = each (get_or xs i d) (All-contains_itself xs i d low)

-- the largest of some numbers
highest_of : (x : ℕ) (xs : List ℕ) → (n : ℕ) × Contains (x ∷ xs) n × ((p : ℕ) → Contains (x ∷ xs) p → p ≤ n)
highest_of x [] = (x, head_in x [], λ p c. elim (cases_in x [] p c) [ inl e ↦ omega (arith, e) | inr h ↦ absurd (none_in p h) ])
highest_of x (y ∷ ys) =
    let rest = highest_of y ys in
    elim (cases_lt x rest.0) [
      | inl low ↦ (rest.0, tail_in x (y ∷ ys) rest.0 rest.1, λ p c. elim (cases_in x (y ∷ ys) p c) [ inl e ↦ omega (arith, e, low) | inr h ↦ rest.2 p h ])
      | inr high ↦ (x, head_in x (y ∷ ys), λ p c. elim (cases_in x (y ∷ ys) p c) [ inl e ↦ omega (arith, e) | inr h ↦ (let up = rest.2 p h in omega (arith, up, high)) ])
    ]

pub highest : (xs : List ℕ) (k : ℕ) → Contains xs k → (n : ℕ) × Contains xs n × ((p : ℕ) → Contains xs p → p ≤ n)
highest [] k c = absurd (none_in k c)
highest (x ∷ xs) k c = highest_of x xs

-- the witness of a process's pieces is one
pub front_given : (t : TraceValue) (location : List ℕ) (d : ℕ) (r : OperationPlace) (pieces : SourcePieces) (piece : ProcessPieces) → Contains pieces.processes.items piece ⊎ (piece.witness ≡ None) → AreGiven t location d r pieces → IsGivenFront t location d r piece.witness
front_given t location d r pieces piece (inl c) given = All-contains (λ (p : ProcessPieces). IsGivenFront t location d r p.witness) pieces.processes.items piece given.processes c
front_given t location d r pieces piece (inr none) given = λ x e. absurd (let clash : None ≡ Some x = sym none ∙ e in cc)

pub main_given : (t : TraceValue) (location : List ℕ) (d : ℕ) (r : OperationPlace) (pieces : SourcePieces) (main : MainPiece) → main ≡ pieces.main → AreGiven t location d r pieces → IsGivenMain t location d r main
main_given t location d r pieces main e given = subst (λ m. IsGivenMain t location d r m) (sym e) given.main

module _ (t : TraceValue) (ok : IsTrace t) (new : List OrderPair) (r : OperationPlace) (pieces : SourcePieces) where
  -- the place that a stretch takes is barred
  pub own_place_barred : (q place : ℕ) (s : Stretches) (piece : ProcessPieces) (main : MainPiece) → BarsPlaces new r q (λ u l v. IsGivenFront u l v r piece.witness × IsGivenMain u l v r main) (AreTaken s) → Contains pieces.processes.items piece ⊎ (piece.witness ≡ None) → main ≡ pieces.main →
      1 ≤ place → AreUpTo s place → IsTaken s place → IsPlaceBarred t new r pieces (at_number q place)
  own_place_barred q place s piece main bars listed e least most taken clause location d all r_known given known =
      bars t clause location d place (numbers_apart t ok) all r_known (λ k low high. (known.0, earlier_known t ok (named t (at_number q k)) (named t (at_number q place)) known.1 refl low high))
      (front_given t location d r pieces piece listed given, main_given t location d r pieces main e given) place least (omega arith) (most, taken)

  -- so is what is taken of a run
  pub run_barred : (origin : Origin) (own : ℕ) (run : Run) (s : Stretches) (piece : ProcessPieces) (main : MainPiece) → BarsPlaces new r run.process (λ u l v. IsGivenFront u l v r piece.witness × IsGivenMain u l v r main) (AreTaken s) → Contains pieces.processes.items piece ⊎ (piece.witness ≡ None) → main ≡ pieces.main →
      (All (λ p. 1 ≤ p) run.places → (k : ℕ) → IsKnown t (at_number run.process k) → Contains run.places k → AllowsWriter origin (named t (at_number run.process k)) → IsTaken s k) → ((n : ℕ) → All (λ p. p ≤ n) run.places → AreUpTo s n) → IsRunBarred t new r origin own pieces run
  run_barred origin own run s piece main bars listed e taken most runs k there allowed own_is clause location d all r_known given known =
      bars t clause location d top.0 (numbers_apart t ok) all r_known (λ j low high. (known.0, earlier_known t ok (named t (at_number run.process j)) (named t (at_number run.process top.0)) (runs top.0 top.1).1 refl low high))
      (front_given t location d r pieces piece listed given, main_given t location d r pieces main e given) k (least k there) (top.2 k there) (most top.0 (all_of (λ p. p ≤ top.0) run.places top.2), taken (all_of (λ p. 1 ≤ p) run.places least) k known there allowed)
    where
      top : (n : ℕ) × Contains run.places n × ((p : ℕ) → Contains run.places p → p ≤ n)
      top = highest run.places k there

      least : (j : ℕ) → Contains run.places j → 1 ≤ j
      least j c = (known_named t (named t (at_number run.process j)) (runs j c).1).least

-- the runs so far, and one more
pub runs_more : (t : TraceValue) (old new : List OrderPair) (r : OperationPlace) (origin : Origin) (own : ℕ) (pieces : SourcePieces) (runs : List Run) (i : ℕ) (run : Run) → i < length runs → get_or runs i run ≡ run → Grows old new → AreRunsBarred t old r origin own pieces (take i runs) →
    IsRunBarred t new r origin own pieces run → AreRunsBarred t new r origin own pieces (take (i + 1) runs)
runs_more t old new r origin own pieces runs i run low at grows so here other c =
    elim (Contains-push_cases (take i runs) run other (subst (λ l. Contains l other) (take_more runs i run low ∙ ap (λ x. take i runs ++ x ∷ []) at) c)) [
      | inl before ↦ (λ known k there allowed own_is clause location d all. so other before known k there allowed own_is clause location d (grows t clause all))
      | inr e ↦ subst (λ (x : Run). IsRunBarred t new r origin own pieces x) e here
    ]

-- the operations of a run of the table are of the trace
pub table_known : (t : TraceValue) → IsTrace t → (writers : TraceWriters) → HoldsWriters t writers → (location : List ℕ) (d : ℕ) (run : Run) → Contains (runs_at writers location d) run → IsKnownRun t run
table_known t ok writers holds location d run listed k there =
    let at = holds.only location d run.process k (run, listed, refl, there) in
    let p = get_or t.processes run.process nobody in
    let is : get_or t.processes run.process p ≡ p = get_or_default t.processes run.process p nobody at.0 in
    let less = at.1.2 p is in
    let next = at.1.1 in
    let j = k - 1 in
    let inside : j < length p.operations = omega (arith, less, next) in
    number_known t (at_number run.process k) (get_or p.operations j blank) (number_of_operation t ok (at_number run.process k) p (get_or p.operations j blank) at.0 is (omega (arith, next)) (slice_get-get_or p.operations j blank inside))
  where
    blank : Op
    blank = Write [] 0 None

-- what is barred of the runs of the table, and of the reader's own process, is all that the reader may read
pub sources_by : (t : TraceValue) → IsTrace t → (writers : TraceWriters) → HoldsWriters t writers → (mid new : List OrderPair) (r : OperationPlace) (origin : Origin) (own : ℕ) (pieces : SourcePieces) (location : List ℕ) (d : ℕ) → IsOwnSource t r origin location d own →
    AreRunsBarred t mid r origin own pieces (runs_at writers location d) → Grows mid new → IsStartBarred t new r origin pieces location d → AreSourcesBarred t new r origin pieces location d
sources_by t ok writers holds mid new r origin own pieces location d own_source runs grows start = record {
  writers = λ clause all r_known given w leaves allowed. by_name clause all r_known given w leaves allowed;
  initial = start;
}
  where
    by_run : (clause : List (OpName × OpName)) → AreIn t new clause → IsKnown t r → AreGiven t location d r pieces → (w : OpName) → value_left_at t location w ≡ Some d → AllowsWriter origin w → (run : Run) (k : ℕ) → run.process < length t.processes → Contains (runs_at writers location d) run → Contains run.places k →
        named t (at_number run.process k) ≡ w → IsBarred t clause location d (named t r) w
    by_run clause all r_known given w leaves allowed run k low listed there same =
        subst (λ x. IsBarred t clause location d (named t r) x) same (
        elim (cases_eq run.process r.process) [
          | inr other ↦ barred (λ e. absurd (other e))
          | inl e ↦ elim (own_source k clause r_known (subst (λ q. IsKnown t (at_number q k)) e known) (subst (λ q. AllowsWriter origin (named t (at_number q k))) e allowed_there) (subst (λ q. value_left_at t location (named t (at_number q k)) ≡ Some d) e leaves_there)) [
            | inl is ↦ barred (λ s. is)
            | inr b ↦ subst (λ q. IsBarred t clause location d (named t r) (named t (at_number q k))) (sym e) b
          ]
        ])
      where
        known : IsKnown t (at_number run.process k)
        known = (low, subst (λ x. IsSome (operation_at t x)) (sym same) (left_known t location d w leaves))

        allowed_there : AllowsWriter origin (named t (at_number run.process k))
        allowed_there = subst (λ x. AllowsWriter origin x) (sym same) allowed

        leaves_there : value_left_at t location (named t (at_number run.process k)) ≡ Some d
        leaves_there = subst (λ x. value_left_at t location x ≡ Some d) (sym same) leaves

        barred : (run.process ≡ r.process → k ≡ own) → IsBarred t clause location d (named t r) (named t (at_number run.process k))
        barred own_is = runs run listed (table_known t ok writers holds location d run listed) k there allowed_there own_is clause location d (grows t clause all) r_known given known

    by_name : (clause : List (OpName × OpName)) → AreIn t new clause → IsKnown t r → AreGiven t location d r pieces → (w : OpName) → value_left_at t location w ≡ Some d → AllowsWriter origin w → IsBarred t clause location d (named t r) w
    by_name clause all r_known given w leaves allowed =
        let at = writes_by_number t location w d leaves in
        let n = at_number at.number (at.place + 1) in
        let found = in_table t ok writers holds n location d at.low (subst (λ x. value_left_at t location x ≡ Some d) (sym at.named_so) leaves) in
        by_run clause all r_known given w leaves allowed found.0 (at.place + 1) (subst (λ q. q < length t.processes) (sym found.2) at.low) found.1 found.3 (ap (λ q. named t (at_number q (at.place + 1))) found.2 ∙ at.named_so)

-- a witness after the reader bars the initial value
pub start_by : (t : TraceValue) (new : List OrderPair) (r x : OperationPlace) (origin : Origin) (pieces : SourcePieces) (location : List ℕ) (d : ℕ) (witness : Option OperationPlace) → (AreGiven t location d r pieces → IsGivenFront t location d r witness) → witness ≡ Some x → MakesSay new r x →
    IsStartBarred t new r origin pieces location d
start_by t new r x origin pieces location d witness front e says clause all known given held allowed =
    let is = front given x e in
    record { witness = named t x; witnesses = is.1; other = is.2; says = says t clause all known is.0 }

-- a clause that has the new orders bars all sources
pub sources_made : (t : TraceValue) (new : List OrderPair) (r : OperationPlace) (op : Op) (d : ℕ) (pieces : SourcePieces) → IsNumberOf t r op → value_read op ≡ Some d → (IsKnown t r → AreGiven t (location_of op) d r pieces) → AreSourcesBarred t new r (origin_of op) pieces (location_of op) d →
    Makes t new (λ clause. IsSourceClause t clause (named t r))
sources_made t new r op d pieces number reads given barred clause all = record {
  op = op;
  value = d;
  known = number.1;
  reads = reads;
  writers = λ w leaves allowed. inl (barred.writers clause all (number_known t r op number) (given (number_known t r op number)) w leaves allowed);
  initial = λ held allowed. inl (barred.initial clause all (number_known t r op number) (given (number_known t r op number)) held allowed);
}

pub source_at : (t : TraceValue) (new : List OrderPair) (r : OperationPlace) (op : Op) (d : ℕ) (location : List ℕ) (origin : Origin) (pieces : SourcePieces) → location ≡ location_of op → origin ≡ origin_of op → IsNumberOf t r op → value_read op ≡ Some d → (IsKnown t r → AreGiven t location d r pieces) →
    AreSourcesBarred t new r origin pieces location d → Makes t new (λ clause. IsSourceClause t clause (named t r))
source_at t new r op d location origin pieces place said number reads given barred =
    sources_made t new r op d pieces number reads (subst (λ l. IsKnown t r → AreGiven t l d r pieces) place given) (subst (λ l. AreSourcesBarred t new r (origin_of op) pieces l d) place (subst (λ o. AreSourcesBarred t new r o pieces location d) said barred))

-- where all sources are barred the clause holds
pub source_holds : (t : TraceValue) (new : List OrderPair) (r : OperationPlace) → Makes t new (λ clause. IsSourceClause t clause (named t r)) → HoldsOfSchedules t (named_orders t new)
source_holds t new r made names legal =
    elim (sources_barred t names legal (named_orders t new) (named t r) (λ s. ⊥) (made (named_orders t new) (λ p c. c))) [
      | inl holds ↦ holds
      | inr at ↦ absurd (at.1)
    ]
