-- What pieces leave of a location's last writers, beside what they bar, is all that may be the last one.
use Rattle.std.proofs.Common.{◌≡◌, ◌⊎◌, ◌<◌, ◌≤◌, ◌+◌, ℕ, List, [], ◌∷◌, ◌++◌, take, length, get_or, refl, ap, sym, ◌∙◌, arith, inl, inr, subst}
use Rattle.std.specs.Prelude.{Some, None, false, is_some}
use Rattle.std.specs.List.{Contains}
use Rattle.std.proofs.lemmas.Bool.{cases_order}
use Rattle.std.proofs.lemmas.List.{take_more}
use Rattle.std.proofs.lemmas.List.Elements.{Contains-push_cases}
use Rattle.std.proofs.lemmas.Option.{same_Some}
use Rattle.trace_semantics.specs.declared.operation.OpName.{OpName}
use Rattle.trace_semantics.specs.Trace.{TraceValue, IsTrace, value_of}
use Rattle.trace_semantics.specs.ValueAfter.{value_left_at}
use Rattle.trace_semantics.proofs.ElementLemmas.{none_in}
use Rattle.writer_table.specs.declared.operation_place.OperationPlace.{OperationPlace}
use Rattle.writer_table.specs.declared.runs.Run.{Run}
use Rattle.writer_table.specs.declared.trace_writers.TraceWriters.{TraceWriters}
use Rattle.writer_table.specs.Writers.{HoldsWriters, runs_at}
use Rattle.order_reasons.specs.Sources.{BarsLastWriters, IsLastBarred}
use Rattle.order_clauses.specs.declared.order_pair.OrderPair.{OrderPair}
use Rattle.order_clauses.specs.Numbered.{named, IsKnown}
use Rattle.reason_clauses.specs.declared.pieces.SourcePieces.{SourcePieces}
use Rattle.reason_clauses.specs.LastBarred.{AreGivenLate, HasWriter, IsUnwrittenBy, MayBeFinal}
use Rattle.reason_clauses.specs.Numbered.{AreIn, Grows, at_number}
use Rattle.reason_clauses.proofs.LastLemmas.{in_runs}
use Rattle.reason_clauses.proofs.NumberedLemmas.{in_order}
use Rattle.reason_clauses.proofs.OwnLemmas.{in_table}
use Rattle.reason_clauses.proofs.SourceLemmas.{table_known}
use Rattle.reason_counting.specs.declared.left_sources.LeftSources.{LeftSources}
use Rattle.reason_counting.specs.declared.left_sources.LeftStretch.{LeftStretch}
use Rattle.reason_counting.specs.Left.{AreMore, IsLeft, IsLeftAt, IsLeftBy, KeepsOnly}
use Rattle.reason_counting.specs.LeftEnds.{AreLastRunsLeft, AreOtherEnds, IsLastRunLeft, IsOneStretch, IsOtherEnd}
use Rattle.reason_counting.proofs.LeftLemmas.{either_more}

-- of a run all but the last are barred by it, and it is barred or left
pub last_run_left : (t : TraceValue) (new : List OrderPair) (left : List LeftStretch) (location : List ℕ) (pieces : SourcePieces) (run : Run) (last value : ℕ) → ((k : ℕ) → Contains run.places k → k ≤ last) → IsKnown t (at_number run.process last) → value_left_at t location (named t (at_number run.process last)) ≡ Some value →
    ((clause : List (OpName × OpName)) → AreIn t new clause → AreGivenLate t location pieces → IsKnown t (at_number run.process last) → MayBeFinal (value_of t.final_values location) value → IsLastBarred t clause location (named t (at_number run.process last)) ⊎ IsLeftAt left value run.process last) →
    IsLastRunLeft t new left location pieces run
last_run_left t new left location pieces run last value most last_known left_there bar clause all given runs k e there leaves final_one =
    elim (cases_order k last) [
      | inl same ↦ (
          let is : e ≡ value = same_Some e value (sym leaves ∙ (ap (λ i. value_left_at t location (named t (at_number run.process i))) same ∙ left_there)) in
          subst (λ i. IsLastBarred t clause location (named t (at_number run.process i)) ⊎ IsLeftAt left e run.process i) (sym same)
          (subst (λ v. IsLastBarred t clause location (named t (at_number run.process last)) ⊎ IsLeftAt left v run.process last) (sym is) (bar clause all given last_known (λ d is_final. final_one d is_final ∙ is))))
      | inr (inl below) ↦ inl (record {
        witness = named t (at_number run.process last);
        bound = named t (at_number run.process k);
        witnesses = inl (ap is_some left_there);
        other = λ same. (let places : last ≡ k = ap (λ (x : OpName). x.place) same in absurd (omega (arith, places, below)));
        above = inl refl;
        says = inr (inr (in_order t (at_number run.process k) (at_number run.process last) (runs k there) last_known refl below));
      })
      | inr (inr over) ↦ absurd (let up = most k there in omega (arith, up, over))
    ]

-- a process that does not write the location has no last writer of it
pub none_left : (t : TraceValue) (new : List OrderPair) (left : List LeftStretch) (location : List ℕ) (pieces : SourcePieces) (run : Run) → ((k : ℕ) → IsUnwrittenBy t location (at_number run.process k)) → IsLastRunLeft t new left location pieces run
none_left t new left location pieces run silent clause all given runs k e there leaves final_one = absurd (let none = silent k (runs k there) in let clash : None ≡ Some e = sym none ∙ leaves in cc)

-- only the operation that was appended is new
pub keeps_one : (left : List LeftStretch) (n : OperationPlace) (value : ℕ) → KeepsOnly left (left ++ (record { process = n.process; value = value; first = n.place; last = n.place }) ∷ []) (IsOneStretch n value)
keeps_one left n value x c =
    elim (Contains-push_cases left (record { process = n.process; value = value; first = n.place; last = n.place }) x c) [
      | inl d ↦ inl d
      | inr e ↦ inr (sym e)
    ]

pub are_ends : (t : TraceValue) (location : List ℕ) (pieces : SourcePieces) (left : LeftSources) → left.location.now ≡ location → left.is_initial_left ≡ false → (start : List LeftStretch) → start ≡ [] → KeepsOnly start left.stretches.items (IsOtherEnd t location pieces) → AreOtherEnds t location pieces left
are_ends t location pieces left same initial start none stretches = record { location_is = same; stretches = λ x c. other x (stretches x c); initial = initial }
  where
    other : (x : LeftStretch) → Contains start x ⊎ IsOtherEnd t location pieces x → IsOtherEnd t location pieces x
    other x (inl c) = absurd (none_in x (subst (λ l. Contains l x) none c))
    other x (inr h) = h

-- the runs so far, and one more
pub lasts_left_more : (t : TraceValue) (old new : List OrderPair) (left more : List LeftStretch) (location : List ℕ) (pieces : SourcePieces) (runs : List Run) (i : ℕ) (run : Run) → i < length runs → get_or runs i run ≡ run → Grows old new → AreMore left more → AreLastRunsLeft t old left location pieces (take i runs) →
    IsLastRunLeft t new more location pieces run → AreLastRunsLeft t new more location pieces (take (i + 1) runs)
lasts_left_more t old new left more location pieces runs i run low at grows kept so here other c =
    elim (Contains-push_cases (take i runs) run other (subst (λ l. Contains l other) (take_more runs i run low ∙ ap (λ x. take i runs ++ x ∷ []) at) c)) [
      | inl before ↦ (λ clause all given known k e there leaves final_one.
          either_more (IsLastBarred t clause location (named t (at_number other.process k))) left more e other.process k kept (so other before clause (grows t clause all) given known k e there leaves final_one))
      | inr e ↦ subst (λ (x : Run). IsLastRunLeft t new more location pieces x) e here
    ]

-- what is left of the runs, beside what is barred, is all that may be the last writer
module _ (t : TraceValue) (ok : IsTrace t) (writers by_value : TraceWriters) (holds : HoldsWriters t writers) (kind : writers.classes.by_value ≡ false) (values : HoldsWriters t by_value) (new : List OrderPair) (left : LeftSources) (location : List ℕ) (pieces : SourcePieces) (given : AreGivenLate t location pieces)
    (runs : AreLastRunsLeft t new left.stretches.items location pieces (runs_at writers location 0)) (same : left.location.now ≡ location) where
  left_by_value : (q k e : ℕ) → q < length t.processes → value_left_at t location (named t (at_number q k)) ≡ Some e → IsLeftAt left.stretches.items e q k → IsLeftBy t by_value location left.stretches.items (named t (at_number q k))
  left_by_value q k e low leaves (x, kept, value, process, least, most) =
      let found = in_table t ok by_value values (at_number q k) location e low leaves in
      record {
        stretch = x;
        kept = kept;
        run = found.0;
        listed = subst (λ v. Contains (runs_at by_value location v) found.0) (sym value) found.1;
        process = process ∙ sym found.2;
        place = k;
        there = found.3;
        least = least;
        most = most;
        named_so = ap (λ p. named t (at_number p k)) found.2;
      }

  by_either : (clause : List (OpName × OpName)) (q k e : ℕ) → q < length t.processes → value_left_at t location (named t (at_number q k)) ≡ Some e → IsLastBarred t clause location (named t (at_number q k)) ⊎ IsLeftAt left.stretches.items e q k →
      IsLastBarred t clause location (named t (at_number q k)) ⊎ IsLeftBy t by_value left.location.now left.stretches.items (named t (at_number q k))
  by_either clause q k e low leaves (inl b) = inl b
  by_either clause q k e low leaves (inr h) = inr (subst (λ a. IsLeftBy t by_value a left.stretches.items (named t (at_number q k))) (sym same) (left_by_value q k e low leaves h))

  by_run : (clause : List (OpName × OpName)) → AreIn t new clause → (w : OpName) (e : ℕ) → value_left_at t location w ≡ Some e → MayBeFinal (value_of t.final_values location) e → IsLastBarred t clause location w ⊎ IsLeftBy t by_value left.location.now left.stretches.items w
  by_run clause all w e leaves final_one =
      let found = in_runs t ok writers holds kind location w e leaves in
      let run = found.0 in
      let k = found.2.0 in
      let is = found.2.2 in
      let leaves_there : value_left_at t location (named t (at_number run.process k)) ≡ Some e = subst (λ x. value_left_at t location x ≡ Some e) (sym is) leaves in
      let known = table_known t ok writers holds location 0 run found.1 in
      subst (λ x. IsLastBarred t clause location x ⊎ IsLeftBy t by_value left.location.now left.stretches.items x) is
      (by_either clause run.process k e (known k found.2.1).0 leaves_there (runs run found.1 clause all given known k e found.2.1 leaves_there final_one))

  pub ends_left : HasWriter t location → (clause : List (OpName × OpName)) → AreIn t new clause → BarsLastWriters t clause location (IsLeft t by_value left)
  ends_left has clause all = record { writer = has.0; writes = has.1; writers = λ w e leaves final_one. by_run clause all w e leaves final_one }
