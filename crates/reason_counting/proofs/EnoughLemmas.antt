-- What is kept of sources is left to the members that are counted.
use Rattle.std.proofs.Common.{◌≡◌, ◌⊎◌, ◌≤◌, ◌<◌, ◌+◌, ℕ, List, [], map, length, true, false, refl, ap, sym, ◌∙◌, arith, inl, inr, subst}
use Rattle.std.specs.Borrow.{Bor}
use Rattle.std.specs.Prelude.{Some, None}
use Rattle.std.specs.List.{Contains}
use Rattle.std.proofs.lemmas.List.{length-map}
use Rattle.trace_semantics.specs.declared.operation.OpName.{OpName}
use Rattle.trace_semantics.specs.declared.operation.Origin.{Origin}
use Rattle.trace_semantics.specs.declared.operation.Origin.TheVariants.{Any, Initial, Operation}
use Rattle.trace_semantics.specs.Operation.{location_of, origin_of}
use Rattle.trace_semantics.specs.Trace.{TraceValue, IsTrace}
use Rattle.trace_semantics.specs.ValueAfter.{value_left_at}
use Rattle.trace_semantics.proofs.ElementLemmas.{from_map, none_in}
use Rattle.writer_table.specs.declared.operation_place.OperationPlace.{OperationPlace}
use Rattle.writer_table.specs.declared.trace_writers.TraceWriters.{TraceWriters}
use Rattle.writer_table.specs.Writers.{HoldsWriters}
use Rattle.order_clauses.specs.Numbered.{named, IsKnown}
use Rattle.order_reasons.specs.Sources.{AllowsWriter}
use Rattle.reason_clauses.specs.LastRefused.{IsPossibleLast, late_taker}
use Rattle.reason_clauses.specs.Numbered.{at_number}
use Rattle.reason_clauses.specs.OwnLast.{IsOwnLast}
use Rattle.reason_clauses.specs.PossibleSources.{IsOther, IsPossibleSource, IsWholeRun}
use Rattle.reason_clauses.specs.declared.cause.ReasonCause.{ReasonCause}
use Rattle.reason_clauses.specs.declared.cause.ReasonCause.TheVariants.{EnoughSources}
use Rattle.reason_clauses.specs.declared.pieces.SourcePieces.{SourcePieces}
use Rattle.reason_clauses.proofs.RunLemmas.{whole_runs}
use Rattle.reason_clauses.proofs.StretchLemmas.{same_last}
use Rattle.reason_counting.specs.CountedMembers.{IsOfStretches}
use Rattle.reason_counting.specs.CountingRefused.{AreEnoughLeft, AreLeftTo, IsInitialToSome, IsLeftInitial, IsLeftOperation, IsLeftToSome, IsSomeMemberRefused}
use Rattle.reason_counting.specs.DistinctSources.{AreNone, HasLocation, KeptOnly}
use Rattle.reason_counting.specs.OtherSources.{IsOtherStretch}
use Rattle.reason_counting.specs.declared.counted_members.CountedMember.{CountedMember}
use Rattle.reason_counting.specs.declared.counted_members.CountedMember.TheVariants.{Update, End}
use Rattle.reason_counting.specs.declared.distinct_sources.DistinctSources.{DistinctSources}
use Rattle.reason_counting.specs.declared.left_sources.LeftSources.{LeftSources}
use Rattle.reason_counting.specs.declared.left_sources.LeftStretch.{LeftStretch}
use Rattle.reason_counting.proofs.KeptLemmas.{apart_none, locations_apart, operations_apart}

module _ (t : TraceValue) (r : OperationPlace) (location : List ℕ) (d q first k last : ℕ) (least : first ≤ k) (most : k ≤ last) where
  at_first : first ≡ last → first ≡ k
  at_first e = omega (arith, least, most, e)

  allowed_between : (origin : Origin) → AllowsWriter origin (named t (at_number q first)) → AllowsWriter origin (named t (at_number q last)) → AllowsWriter origin (named t (at_number q k))
  allowed_between Any a b = tt
  allowed_between Initial a b = absurd a
  allowed_between (Operation n) a b = subst (λ j. named t (at_number q j) ≡ n) (at_first (let same : first ≡ last = ap (λ (x : OpName). x.place) (a ∙ sym b) in same)) a

  -- what leaves the value between two sources in a process is one
  source_between : (origin : Origin) → IsPossibleSource t r origin location d (at_number q first) → IsPossibleSource t r origin location d (at_number q last) → IsKnown t (at_number q k) → value_left_at t location (named t (at_number q k)) ≡ Some d → IsPossibleSource t r origin location d (at_number q k)
  source_between origin a b known leaves = record {
    known = known;
    leaves = leaves;
    allowed = allowed_between origin a.allowed b.allowed;
    own = λ same. subst (λ j. IsOwnLast t r location j) (at_first (same_last t r location first last (a.own same) (b.own same))) (a.own same);
  }

  other_between : (pieces : SourcePieces) → IsOther pieces (at_number q first) → IsOther pieces (at_number q last) → IsOther pieces (at_number q k)
  other_between pieces a b = (let past = a.0 in omega (arith, past, least), under b.1)
    where
      under : {limit : ℕ} → (limit ≡ 0) ⊎ (last < limit) → (limit ≡ 0) ⊎ (k < limit)
      under (inl none) = inl none
      under (inr below) = inr (omega (arith, below, most))

-- what is left to a member by stretches of a table by location and value
module _ (t : TraceValue) (ok : IsTrace t) (writers : TraceWriters) (holds : HoldsWriters t writers) (kind : writers.classes.by_value ≡ true) where
  pub left_operation : (member : CountedMember) (left : LeftSources) → AreLeftTo t member left → (n : OperationPlace) → IsOfStretches writers left.location.now left.stretches.items n → IsLeftOperation t member n
  left_operation (Update r pieces) left others n (x, listed, (run, run_listed, same, (k, there, is, least, most))) =
      (others.op, others.value, others.number, others.reads, subst (λ w. IsPossibleSource t r (origin_of others.op) (location_of others.op) others.value w) (sym is) at_run, subst (λ w. IsOther pieces w) (sym is) other_at_run)
    where
      other : IsOtherStretch t r pieces (origin_of others.op) (location_of others.op) others.value x
      other = others.stretches x listed

      whole : IsWholeRun t (location_of others.op) others.value run
      whole = subst (λ v. IsWholeRun t (location_of others.op) v run) other.value_is (subst (λ a. IsWholeRun t a x.value run) others.location_is (whole_runs t ok writers holds kind left.location.now x.value run run_listed))

      at_run : IsPossibleSource t r (origin_of others.op) (location_of others.op) others.value (at_number run.process k)
      at_run =
          source_between t r (location_of others.op) others.value run.process x.first k x.last least most (origin_of others.op)
          (subst (λ q. IsPossibleSource t r (origin_of others.op) (location_of others.op) others.value (at_number q x.first)) (sym same) other.first)
          (subst (λ q. IsPossibleSource t r (origin_of others.op) (location_of others.op) others.value (at_number q x.last)) (sym same) other.last) (whole.only k there).0 (whole.only k there).1

      other_at_run : IsOther pieces (at_number run.process k)
      other_at_run =
          other_between t r (location_of others.op) others.value run.process x.first k x.last least most pieces (subst (λ q. IsOther pieces (at_number q x.first)) (sym same) other.first_other)
          (subst (λ q. IsOther pieces (at_number q x.last)) (sym same) other.last_other)
  left_operation (End location pieces) left ends n (x, listed, (run, run_listed, same, (k, there, is, least, most))) =
      let at = ends.stretches x listed in
      let w = at.0 in
      let process : w.process ≡ run.process = sym (same ∙ ap (λ (y : LeftStretch). y.process) at.2) in
      let first : x.first ≡ w.place = ap (λ (y : LeftStretch). y.first) at.2 in
      let last : x.last ≡ w.place = ap (λ (y : LeftStretch). y.last) at.2 in
      let place : w.place ≡ k = omega (arith, least, most, first, last) in
      let one : w ≡ n = (λ i. record { process = process i; place = place i }) ∙ sym is in
      subst (λ (m : OperationPlace). IsPossibleLast t location.now m × (late_taker pieces m ≡ None)) one (at.3, at.5)

pub left_initial : (t : TraceValue) (member : CountedMember) (left : LeftSources) → AreLeftTo t member left → (a : List ℕ) → (left.is_initial_left ≡ true) × (a ≡ left.location.now) → IsLeftInitial t member a
left_initial t (Update r pieces) left others a (is, same) = (others.op, others.value, others.number, others.reads, same ∙ others.location_is, others.initial is)
left_initial t (End location pieces) left ends a (is, same) = absurd (let clash : true ≡ false = sym is ∙ ends.initial in cc)

-- what is kept is enough
pub enough_left : (t : TraceValue) (members : List CountedMember) (start kept : DistinctSources) → AreNone start → KeptOnly start kept (IsLeftToSome t members) (IsInitialToSome t members) → length members ≤ length kept.operations.items + length kept.locations.items → AreEnoughLeft t members
enough_left t members start kept none only most = record {
  operations = kept.operations.items;
  locations = map (λ (x : Bor (List ℕ)). x.now) kept.locations.items;
  apart = operations_apart kept (only.apart (apart_none start none));
  locations_apart = locations_apart kept (only.apart (apart_none start none));
  left = λ w c. operation w (only.operations w c);
  initial = λ a c. (let at = from_map (λ (x : Bor (List ℕ)). x.now) kept.locations.items a c in location a (only.locations a at));
  enough = (let long = length-map kept.locations.items (λ (x : Bor (List ℕ)). x.now) in omega (arith, most, long));
}
  where
    operation : (w : OperationPlace) → Contains start.operations.items w ⊎ IsLeftToSome t members w → IsLeftToSome t members w
    operation w (inl c) = absurd (none_in w (subst (λ (l : List OperationPlace). Contains l w) none.0 c))
    operation w (inr h) = h

    location : (a : List ℕ) → HasLocation start.locations.items a ⊎ IsInitialToSome t members a → IsInitialToSome t members a
    location a (inl h) = absurd (none_in h.0 (subst (λ (l : List (Bor (List ℕ))). Contains l h.0) none.1 h.1))
    location a (inr h) = h

pub enough_by : (t : TraceValue) (members : List CountedMember) (cause : ReasonCause) (P : Type 0) → P → IsSomeMemberRefused t members cause ⊎ ((cause ≡ EnoughSources) × (P → AreEnoughLeft t members)) → IsSomeMemberRefused t members cause ⊎ ((cause ≡ EnoughSources) × AreEnoughLeft t members)
enough_by t members cause P p (inl h) = inl h
enough_by t members cause P p (inr h) = inr (h.0, h.1 p)
