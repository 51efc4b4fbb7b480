-- What the runs of writers leave barred is all that may be the last writer of a location.
use Rattle.std.proofs.Common.{◌≡◌, ◌⊎◌, ◌<◌, ◌≤◌, ◌+◌, ℕ, zero, suc, List, [], ◌∷◌, ◌++◌, take, length, get_or, refl, ap, sym, ◌∙◌, arith, true, Bool, ◌||◌, inl, inr, subst}
use Rattle.std.specs.Prelude.{Option, Some, None, false, is_some, IfSome}
use Rattle.std.specs.Bool.{MatchBool}
use Rattle.std.specs.List.{AllPairs, Contains}
use Rattle.std.specs.Option.{option_and_then}
use Rattle.std.proofs.lemmas.Bool.{cases_order}
use Rattle.std.proofs.lemmas.List.{take_more, get_or_default}
use Rattle.std.proofs.lemmas.List.Elements.{All-contains, Contains-push_cases}
use Rattle.std.proofs.lemmas.Option.{same_Some}
use Rattle.trace_semantics.specs.declared.operation.Op.{Op}
use Rattle.trace_semantics.specs.declared.operation.OpName.{OpName}
use Rattle.trace_semantics.specs.Trace.{TraceValue, IsTrace, value_of}
use Rattle.trace_semantics.specs.ValueAfter.{value_left_at}
use Rattle.trace_semantics.proofs.NameLemmas.{known_named}
use Rattle.restriction.specs.Restriction.{left_by}
use Rattle.writer_table.specs.declared.operation_place.OperationPlace.{OperationPlace}
use Rattle.writer_table.specs.declared.runs.Run.{Run}
use Rattle.writer_table.specs.declared.trace_writers.TraceWriters.{TraceWriters}
use Rattle.writer_table.specs.Runs.{IsIn}
use Rattle.writer_table.specs.Writers.{HoldsWriters, runs_at}
use Rattle.order_reasons.specs.Orders.{HoldsOfSchedules}
use Rattle.order_reasons.specs.Sources.{IsLastBarred, IsLastClause, IsLostFinal}
use Rattle.order_reasons.proofs.SourceReasons.{last_writers_barred, lost_final}
use Rattle.order_clauses.specs.declared.order_pair.OrderPair.{OrderPair}
use Rattle.order_clauses.specs.Numbered.{named, named_orders, IsKnown}
use Rattle.reason_clauses.specs.declared.pieces.ProcessPieces.{ProcessPieces}
use Rattle.reason_clauses.specs.declared.pieces.SourcePieces.{SourcePieces}
use Rattle.reason_clauses.specs.LastBarred.{DoesHideLate, MayBeFinal, IsGivenLate, AreGivenLate, HasWriter, HasAllWriters, IsUnwrittenBy, IsWriterRun, AreWriterRuns, IsLastOfProcessBarred, AreLastsBarred}
use Rattle.reason_clauses.specs.LastRefused.{IsPossibleLast}
use Rattle.reason_clauses.specs.Made.{Makes, IsLastOf}
use Rattle.reason_clauses.specs.Makers.{read_by, IsNumberOf}
use Rattle.reason_clauses.specs.Numbered.{AreIn, Grows, MakesSay, at_number}
use Rattle.reason_clauses.proofs.MakerLemmas.{number_known}
use Rattle.reason_clauses.proofs.NumberLemmas.{writes_by_number, numbers_apart}
use Rattle.reason_clauses.proofs.NumberedLemmas.{in_order}
use Rattle.reason_clauses.proofs.OwnLemmas.{in_table, in_table_writes, left_known}
use Rattle.reason_clauses.proofs.SourceLemmas.{table_known}

-- a witness by numbers
pub late_given : (t : TraceValue) (x : OperationPlace) (op : Op) (location : List ℕ) (last : Option ℕ) → value_of t.final_values location ≡ last → IsNumberOf t x op → DoesHideLate location last op → IsGivenLate t location x
late_given t x op location last is h (inl writes) = (number_known t x op h, inl (ap (λ o. is_some (option_and_then (left_by location) o)) h.1 ∙ writes))
late_given t x op location last is h (inr (e, d, reads, final_one, other)) = (number_known t x op h, inr (e, d, ap (option_and_then (read_by location)) h.1 ∙ reads, is ∙ final_one, other))

-- a witness by names is one by numbers
pub hides_late_by : (t : TraceValue) (x : OperationPlace) (op : Op) (location : List ℕ) (last : Option ℕ) → value_of t.final_values location ≡ last → IsNumberOf t x op → IsGivenLate t location x → DoesHideLate location last op
hides_late_by t x op location last is h (known, inl writes) = inl (ap (λ o. is_some (option_and_then (left_by location) o)) (sym h.1) ∙ writes)
hides_late_by t x op location last is h (known, inr (e, d, reads, final_one, other)) = inr (e, d, ap (option_and_then (read_by location)) (sym h.1) ∙ reads, sym is ∙ final_one, other)

-- the witness of a process's pieces is one
pub late_front : (t : TraceValue) (location : List ℕ) (pieces : SourcePieces) (piece : ProcessPieces) → Contains pieces.processes.items piece ⊎ (piece.witness ≡ None) → AreGivenLate t location pieces → IfSome piece.witness (IsGivenLate t location)
late_front t location pieces piece (inl c) given = All-contains (λ (p : ProcessPieces). IfSome p.witness (IsGivenLate t location)) pieces.processes.items piece given.processes c
late_front t location pieces piece (inr none) given = subst (λ w. IfSome w (IsGivenLate t location)) (sym none) tt

at_some : (o : Option OperationPlace) (P : OperationPlace → Type 0) → IfSome o P → (x : OperationPlace) → o ≡ Some x → P x
at_some None P h x e = absurd (cc)
at_some (Some y) P h x e = subst P (same_Some y x e) h

-- of a process all but the last writer are barred by it
pub process_barred_by : (t : TraceValue) (new : List OrderPair) (location : List ℕ) (pieces : SourcePieces) (q last left : ℕ) → IsKnown t (at_number q last) → value_left_at t location (named t (at_number q last)) ≡ Some left → ((k : ℕ) → last < k → IsUnwrittenBy t location (at_number q k)) →
    ((clause : List (OpName × OpName)) → AreIn t new clause → AreGivenLate t location pieces → IsKnown t (at_number q last) → MayBeFinal (value_of t.final_values location) left → IsLastBarred t clause location (named t (at_number q last))) → IsLastOfProcessBarred t new location pieces q
process_barred_by t new location pieces q last left last_known left_there silent bar clause all given k e known leaves final_one =
    elim (cases_order k last) [
      | inl same ↦ subst (λ i. IsLastBarred t clause location (named t (at_number q i))) (sym same) (bar clause all given last_known (λ d is. final_one d is ∙ same_Some e left (sym leaves ∙ (ap (λ i. value_left_at t location (named t (at_number q i))) same ∙ left_there))))
      | inr (inl below) ↦ record {
        witness = named t (at_number q last);
        bound = named t (at_number q k);
        witnesses = inl (ap is_some left_there);
        other = λ same. (let places : last ≡ k = ap (λ (x : OpName). x.place) same in absurd (omega (arith, places, below)));
        above = inl refl;
        says = inr (inr (in_order t (at_number q k) (at_number q last) known last_known refl below));
      }
      | inr (inr over) ↦ absurd (let none = silent k over known in let clash : None ≡ Some e = sym none ∙ leaves in cc)
    ]

-- a process that does not write the location has no last writer of it
pub nothing_barred : (t : TraceValue) (new : List OrderPair) (location : List ℕ) (pieces : SourcePieces) (q : ℕ) → ((k : ℕ) → IsUnwrittenBy t location (at_number q k)) → IsLastOfProcessBarred t new location pieces q
nothing_barred t new location pieces q silent clause all given k e known leaves final_one = absurd (let none = silent k known in let clash : None ≡ Some e = sym none ∙ leaves in cc)

-- the last writer of a process, which leaves what may be the final value, is a possible last writer
pub possible_last : (t : TraceValue) (location : List ℕ) (n : OperationPlace) (left : ℕ) (final_value : Option ℕ) → value_of t.final_values location ≡ final_value → IsKnown t n → value_left_at t location (named t n) ≡ Some left → MayBeFinal final_value left → ((k : ℕ) → n.place < k → IsUnwrittenBy t location (at_number n.process k)) →
    IsPossibleLast t location n
possible_last t location n left final_value is known leaves final_one silent = record { known = known; value = left; leaves = leaves; final_value = λ d e. final_one d (sym is ∙ e); last = λ k over there. silent k over there }

-- a process has one run
one_run : (runs : List Run) (a b : Run) → AllPairs (λ (x y : Run). x.process < y.process) runs → Contains runs a → Contains runs b → a.process ≡ b.process → a ≡ b
one_run runs a b apart (i, low_a, at_a) (j, low_b, at_b) same =
    elim (cases_order i j) [
      | inl e ↦ sym at_a ∙ (get_or_default runs i a b low_a ∙ (ap (λ k. get_or runs k b) e ∙ at_b))
      | inr (inl below) ↦ absurd (let less : a.process < b.process = subst (λ (x : Run). a.process < x.process) (get_or_default runs j a b low_b ∙ at_b) (subst (λ (x : Run). x.process < (get_or runs j a).process) at_a (apart i j a below low_b)) in omega (arith, less, same))
      | inr (inr over) ↦ absurd (let less : b.process < a.process = subst (λ (x : Run). b.process < x.process) (get_or_default runs i b a low_a ∙ at_a) (subst (λ (x : Run). x.process < (get_or runs i b).process) at_b (apart j i b over low_a)) in omega (arith, less, same))
    ]

-- past the last place of its run a process does not write the location
pub silent_past : (t : TraceValue) (location : List ℕ) (run : Run) (last : ℕ) → IsWriterRun t location run → ((k : ℕ) → Contains run.places k → k ≤ last) → (k : ℕ) → last < k → IsUnwrittenBy t location (at_number run.process k)
silent_past t location run last is most k over known = at (value_left_at t location (named t (at_number run.process k))) refl
  where
    at : (o : Option ℕ) → value_left_at t location (named t (at_number run.process k)) ≡ o → value_left_at t location (named t (at_number run.process k)) ≡ None
    at None e = e
    at (Some d) e = absurd (let up = most k (is.all k d known e) in omega (arith, up, over))

-- a run whose last place is of no operation that writes the location is of a process that does not
pub nothing_written : (t : TraceValue) (location : List ℕ) (run : Run) (last : ℕ) → IsWriterRun t location run → (1 ≤ last → Contains run.places last) → IsUnwrittenBy t location (at_number run.process last) → ((k : ℕ) → Contains run.places k → k ≤ last) → (k : ℕ) → IsUnwrittenBy t location (at_number run.process k)
nothing_written t location run zero is member none most k known = silent_past t location run zero is most k (known_named t (named t (at_number run.process k)) known.1).least known
nothing_written t location run (suc last) is member none most k known =
    absurd (let there = is.only (suc last) (member (omega arith)) in let clash : true ≡ false = sym there.1 ∙ ap is_some (none there.0) in cc)

-- the last is barred by a witness that stands before it
pub witness_bars : (t : TraceValue) → IsTrace t → (new : List OrderPair) (location : List ℕ) (pieces : SourcePieces) (n x : OperationPlace) (left : ℕ) (witness : Option OperationPlace) → (AreGivenLate t location pieces → IfSome witness (IsGivenLate t location)) → witness ≡ Some x → (x ≡ n → ⊥) → MakesSay new x n →
    (clause : List (OpName × OpName)) → AreIn t new clause → AreGivenLate t location pieces → IsKnown t n → MayBeFinal (value_of t.final_values location) left → IsLastBarred t clause location (named t n)
witness_bars t ok new location pieces n x left witness front e other says clause all given known final_one =
    let is = at_some witness (IsGivenLate t location) (front given) x e in
    record {
      witness = named t x;
      bound = named t n;
      witnesses = is.1;
      other = λ same. other (numbers_apart t ok x n is.0 known same);
      above = inl refl;
      says = says t clause all is.0 known;
    }

pub has_writer : (t : TraceValue) (n : OperationPlace) (op : Op) (location : List ℕ) (left : ℕ) → IsNumberOf t n op → left_by location op ≡ Some left → HasWriter t location
has_writer t n op location left number leaves = (named t n, ap (λ o. is_some (option_and_then (left_by location) o)) number.1 ∙ ap is_some leaves)

-- the runs so far, and one more
pub lasts_more : (t : TraceValue) (old new : List OrderPair) (location : List ℕ) (pieces : SourcePieces) (runs : List Run) (i : ℕ) (run : Run) → i < length runs → get_or runs i run ≡ run → Grows old new → AreLastsBarred t old location pieces (take i runs) → IsLastOfProcessBarred t new location pieces run.process →
    AreLastsBarred t new location pieces (take (i + 1) runs)
lasts_more t old new location pieces runs i run low at grows so here other c =
    elim (Contains-push_cases (take i runs) run other (subst (λ l. Contains l other) (take_more runs i run low ∙ ap (λ x. take i runs ++ x ∷ []) at) c)) [
      | inl before ↦ (λ clause all. so other before clause (grows t clause all))
      | inr e ↦ subst (λ (x : Run). IsLastOfProcessBarred t new location pieces x.process) e here
    ]

-- a loop over runs that are none has found nothing
pub none_or : (runs : List Run) (i : ℕ) (P : Type 0) → length runs ≤ i → (i ≡ 0) ⊎ P → (runs ≡ []) ⊎ P
none_or [] i P long h = inl refl
none_or (run ∷ runs) i P long (inl e) = absurd (omega (arith, long, e))
none_or (run ∷ runs) i P long (inr h) = inr h

-- no process of these runs writes the location
abbrev pub AreSilent : TraceValue → List ℕ → List Run → Type 0
AreSilent t location runs = (run : Run) → Contains runs run → (k : ℕ) → IsUnwrittenBy t location (at_number run.process k)

-- some operation of these runs writes the location, or none does
abbrev pub IsWrittenOr : Bool → TraceValue → List ℕ → List Run → Type 0
IsWrittenOr does t location runs = MatchBool does (HasWriter t location) (AreSilent t location runs)

pub written_more : (t : TraceValue) (location : List ℕ) (runs : List Run) (i : ℕ) (run : Run) (was does : Bool) → i < length runs → get_or runs i run ≡ run → IsWrittenOr was t location (take i runs) → MatchBool does (HasWriter t location) ((k : ℕ) → IsUnwrittenBy t location (at_number run.process k)) →
    IsWrittenOr (was || does) t location (take (i + 1) runs)
written_more t location runs i run true does low at h here = h
written_more t location runs i run false true low at h here = here
written_more t location runs i run false false low at h here = λ other c.
    elim (Contains-push_cases (take i runs) run other (subst (λ l. Contains l other) (take_more runs i run low ∙ ap (λ x. take i runs ++ x ∷ []) at) c)) [
      | inl before ↦ h other before
      | inr e ↦ subst (λ (x : Run). (k : ℕ) → IsUnwrittenBy t location (at_number x.process k)) e here
    ]

-- runs that have all writers, and of which no process writes the location: no operation does
pub none_written : (t : TraceValue) (location : List ℕ) (runs : List Run) → HasAllWriters t location runs → AreSilent t location runs → HasWriter t location → ⊥
none_written t location runs all silent (w, writes) = at (value_left_at t location w) refl
  where
    at : (o : Option ℕ) → value_left_at t location w ≡ o → ⊥
    at None e = absurd (let clash : true ≡ false = sym writes ∙ ap is_some e in cc)
    at (Some d) e =
        let n = writes_by_number t location w d e in
        let leaves : value_left_at t location (named t (at_number n.number (n.place + 1))) ≡ Some d = subst (λ x. value_left_at t location x ≡ Some d) (sym n.named_so) e in
        let found = all n.number (n.place + 1) d n.low leaves in
        let known : IsKnown t (at_number n.number (n.place + 1)) = (n.low, left_known t location d (named t (at_number n.number (n.place + 1))) leaves) in
        let same = found.2 in
        let none = silent found.0 found.1 (n.place + 1) (subst (λ q. IsKnown t (at_number q (n.place + 1))) (sym same) known) in
        absurd (let clash : None ≡ Some d = sym none ∙ subst (λ q. value_left_at t location (named t (at_number q (n.place + 1))) ≡ Some d) (sym same) leaves in cc)

-- the same, whichever was found
pub written_all : (t : TraceValue) (location : List ℕ) (runs : List Run) (does : Bool) → HasAllWriters t location runs → IsWrittenOr does t location runs → MatchBool does (HasWriter t location) (HasWriter t location → ⊥)
written_all t location runs true all h = h
written_all t location runs false all h = none_written t location runs all h

-- of runs that are some a writer was found
pub some_writer : (runs : List Run) (P : Type 0) → (length runs ≡ 0 → ⊥) → (runs ≡ []) ⊎ P → P
some_writer runs P some (inl e) = absurd (some (ap length e))
some_writer runs P some (inr h) = h

module _ (t : TraceValue) (ok : IsTrace t) (writers : TraceWriters) (holds : HoldsWriters t writers) (kind : writers.classes.by_value ≡ false) (location : List ℕ) where
  -- what writes the location is in the table
  pub in_runs : (w : OpName) (e : ℕ) → value_left_at t location w ≡ Some e → (run : Run) × Contains (runs_at writers location 0) run × ((k : ℕ) × Contains run.places k × (named t (at_number run.process k) ≡ w))
  in_runs w e leaves =
      let at = writes_by_number t location w e leaves in
      let n = at_number at.number (at.place + 1) in
      let found = in_table t ok writers holds n location e at.low (subst (λ x. value_left_at t location x ≡ Some e) (sym at.named_so) leaves) in
      (found.0, subst (λ l. Contains l found.0) (holds.alike location e 0 kind) found.1, (at.place + 1, found.3, ap (λ q. named t (at_number q (at.place + 1))) found.2 ∙ at.named_so))

  -- a clause that has the new orders bars each that may be the last writer
  pub lasts_made : (new : List OrderPair) (pieces : SourcePieces) → AreGivenLate t location pieces → AreLastsBarred t new location pieces (runs_at writers location 0) → HasWriter t location → Makes t new (IsLastOf t location)
  lasts_made new pieces given runs has clause all = inl bars
    where
      by_run : (w : OpName) (e : ℕ) → value_left_at t location w ≡ Some e → MayBeFinal (value_of t.final_values location) e → IsLastBarred t clause location w
      by_run w e leaves final_one =
          let found = in_runs w e leaves in
          let run = found.0 in
          let k = found.2.0 in
          let same = found.2.2 in
          subst (λ x. IsLastBarred t clause location x) same
          (runs run found.1 clause all given k e (all_known run found.1 k found.2.1) (subst (λ x. value_left_at t location x ≡ Some e) (sym same) leaves) final_one)
        where
          all_known : (run : Run) → Contains (runs_at writers location 0) run → (k : ℕ) → Contains run.places k → IsKnown t (at_number run.process k)
          all_known run listed = table_known t ok writers holds location 0 run listed

      bars : IsLastClause t clause location
      bars = record { writer = has.0; writes = has.1; writers = λ w e leaves final_one. inl (by_run w e leaves final_one) }

  -- the runs of the location have all that write it
  pub all_in_runs : HasAllWriters t location (runs_at writers location 0)
  all_in_runs q k d low leaves = subst (λ l. IsIn l q k) (holds.alike location d 0 kind) (in_table t ok writers holds (at_number q k) location d low leaves)

  -- and no others
  pub writer_runs : AreWriterRuns t location (runs_at writers location 0)
  writer_runs = record {
    all = all_in_runs;
    each = λ run listed. record {
      all = λ k d known leaves. (let found = all_in_runs run.process k d known.0 leaves in
          subst (λ (x : Run). Contains x.places k) (one_run (runs_at writers location 0) found.0 run (holds.ordered location 0).apart found.1 listed found.2) found.3);
      only = λ k there. in_table_writes t ok writers holds location 0 run.process k (run, listed, refl, there);
    };
  }

  -- no operation writes the location, and it ends with another value than it begins with
  pub lost_made : (new : List OrderPair) (last : Option ℕ) → value_of t.final_values location ≡ last → (d : ℕ) × (last ≡ Some d) × (value_of t.initial location ≡ Some d → ⊥) → (HasWriter t location → ⊥) → Makes t new (IsLastOf t location)
  lost_made new last is (d, e, other) unwritten clause all = inr lost
    where
      silent : (w : OpName) (o : Option ℕ) → value_left_at t location w ≡ o → value_left_at t location w ≡ None
      silent w None h = h
      silent w (Some v) h = absurd (unwritten (w, ap is_some h))

      lost : IsLostFinal t location
      lost = record { value = d; final_value = is ∙ e; initial = other; unwritten = λ w. silent w (value_left_at t location w) refl }

  -- such a clause holds
  pub last_holds : (new : List OrderPair) → Makes t new (IsLastOf t location) → HoldsOfSchedules t (named_orders t new)
  last_holds new made names legal =
      elim (made (named_orders t new) (λ p c. c)) [
        | inl bars ↦ (elim (last_writers_barred t names legal (named_orders t new) location (λ s. ⊥) bars) [
          | inl holds_it ↦ holds_it
          | inr at ↦ absurd (at.2)
        ])
        | inr lost ↦ absurd (lost_final t names legal [] location lost)
      ]
