-- Stretches of a process are of the sources there that pieces take, and of those that none takes.
use Rattle.std.proofs.Common.{◌≡◌, ◌⊎◌, ℕ, List, [], true, refl, ap, sym, ◌∙◌, arith, inl, inr, subst}
use Rattle.std.specs.Prelude.{Some}
use Rattle.std.specs.List.{Contains}
use Rattle.trace_semantics.specs.declared.operation.Op.{Op}
use Rattle.trace_semantics.specs.declared.operation.Origin.{Origin}
use Rattle.trace_semantics.specs.Operation.{location_of, value_read, origin_of}
use Rattle.trace_semantics.proofs.ElementLemmas.{none_in}
use Rattle.trace_semantics.specs.Trace.{TraceValue}
use Rattle.writer_table.specs.declared.operation_place.OperationPlace.{OperationPlace}
use Rattle.order_clauses.specs.declared.order_pair.OrderPair.{OrderPair}
use Rattle.reason_clauses.specs.AddedOrders.{AddsOnly}
use Rattle.reason_clauses.specs.Makers.{IsNumberOf}
use Rattle.reason_clauses.specs.Numbered.{at_number}
use Rattle.reason_clauses.specs.PieceOf.{piece_of}
use Rattle.reason_clauses.specs.PossibleSources.{IsOther, IsOwnExact, IsPossibleSource}
use Rattle.reason_clauses.specs.SourceRefused.{IsInitialOrder, IsPartlyRefused, IsPieceOrder}
use Rattle.reason_clauses.specs.StretchOrders.{AreStretchesOf, IsTakenOrder, IsTakenRefused}
use Rattle.reason_clauses.specs.declared.cause.ReasonCause.{ReasonCause}
use Rattle.reason_clauses.specs.declared.pieces.ProcessPieces.{ProcessPieces}
use Rattle.reason_clauses.specs.declared.pieces.SourcePieces.{SourcePieces}
use Rattle.reason_clauses.specs.declared.stretches.Stretches.{Stretches}
use Rattle.reason_clauses.proofs.AddedLemmas.{adds_over}
use Rattle.reason_clauses.proofs.StretchLemmas.{piece_order, taken_refused}
use Rattle.reason_counting.specs.Left.{IsMainStretch, KeepsOnly}
use Rattle.reason_counting.specs.OtherSources.{AreOthers, IsInitialOther, IsOtherStretch, IsPartOrder, IsPartRefused, TakesOnly}
use Rattle.reason_counting.specs.declared.left_sources.LeftSources.{LeftSources}
use Rattle.reason_counting.specs.declared.left_sources.LeftStretch.{LeftStretch}
use Rattle.reason_counting.proofs.LeftLemmas.{keeps_over}

-- r's own source, if there is one
pub own_there : (t : TraceValue) (r : OperationPlace) (origin : Origin) (location : List ℕ) (d own : ℕ) → (own ≡ 0 → ⊥) → IsOwnExact t r origin location d own → IsPossibleSource t r origin location d (at_number r.process own)
own_there t r origin location d own some (inl none) = absurd (some none)
own_there t r origin location d own some (inr source) = source

module _ (t : TraceValue) (r : OperationPlace) (pieces : SourcePieces) (origin : Origin) (location : List ℕ) (d : ℕ) where
  -- the stretches are of the sources in this process, cut by its pieces
  abbrev pub AreSourceStretches : ℕ → ProcessPieces → Stretches → Type 0
  AreSourceStretches q piece s = AreStretchesOf (λ k. IsPossibleSource t r origin location d (at_number q k)) piece.bound piece.limit s

  module _ (q : ℕ) (piece : ProcessPieces) (is : piece ≡ piece_of pieces.processes.items q) (s : Stretches) (so : AreSourceStretches q piece s) where
    by_pieces : AreSourceStretches q (piece_of pieces.processes.items q) s
    by_pieces = subst (λ (p : ProcessPieces). AreSourceStretches q p s) is so

    orders : (o : OrderPair) → IsTakenOrder r q s piece.witness o → IsPieceOrder t r pieces origin location d o
    orders o h = piece_order t r pieces origin location d q s by_pieces o (subst (λ (p : ProcessPieces). IsTakenOrder r q s p.witness o) is h)

    pub refusals : (cause : ReasonCause) → IsTakenRefused q s piece.witness cause → IsPartlyRefused t r pieces origin location d cause
    refusals cause h = taken_refused t r pieces origin location d q s by_pieces cause (subst (λ (p : ProcessPieces). IsTakenRefused q s p.witness cause) is h)

    -- the main stretch is of sources that no piece takes
    main_other : (x : LeftStretch) → IsMainStretch d q s x → IsOtherStretch t r pieces origin location d x
    main_other x m =
        let first = (by_pieces.first m.some).0 in
        let last = (by_pieces.last m.some).0 in
        let first_at : at_number q s.first ≡ at_number x.process x.first = (λ i. record { process = sym m.process_is i; place = sym m.first_is i }) in
        let last_at : at_number q s.last ≡ at_number x.process x.last = (λ i. record { process = sym m.process_is i; place = sym m.last_is i }) in
        record {
          value_is = m.value_is;
          first = subst (λ w. IsPossibleSource t r origin location d w) first_at first.0;
          first_other = subst (λ w. IsOther pieces w) first_at first.1;
          last = subst (λ w. IsPossibleSource t r origin location d w) last_at last.0;
          last_other = subst (λ w. IsOther pieces w) last_at last.1;
        }

    pub takes_only : (old new : List OrderPair) (left more : List LeftStretch) → AddsOnly old new (IsTakenOrder r q s piece.witness) → KeepsOnly left more (IsMainStretch d q s) → TakesOnly t r pieces origin location d old new left more
    takes_only old new left more added kept = (
      adds_over old old new (IsTakenOrder r q s piece.witness) (IsPieceOrder t r pieces origin location d) orders (λ o c. inl c) added,
      keeps_over left left more (IsMainStretch d q s) (IsOtherStretch t r pieces origin location d) main_other (λ x c. inl c) kept,
    )

  pub takes_over : (old mid new : List OrderPair) (left more most : List LeftStretch) → TakesOnly t r pieces origin location d old mid left more → TakesOnly t r pieces origin location d mid new more most → TakesOnly t r pieces origin location d old new left most
  takes_over old mid new left more most first second = (
    adds_over old mid new (IsPieceOrder t r pieces origin location d) (IsPieceOrder t r pieces origin location d) (λ o h. h) first.0 second.0,
    keeps_over left more most (IsOtherStretch t r pieces origin location d) (IsOtherStretch t r pieces origin location d) (λ x h. h) first.1 second.1,
  )

-- what is so of a reader, its location and its value's origin is so of its operation
module _ (t : TraceValue) (r : OperationPlace) (pieces : SourcePieces) (op : Op) (d : ℕ) (origin : Origin) (location : List ℕ) (number : IsNumberOf t r op) (reads : value_read op ≡ Some d) (origin_is : origin ≡ origin_of op) (location_is : location ≡ location_of op) where
  at_operation : (P : Origin → List ℕ → Type 0) → P origin location → P (origin_of op) (location_of op)
  at_operation P h = subst (λ a. P (origin_of op) a) location_is (subst (λ (o : Origin). P o location) origin_is h)

  pub part_refused : (cause : ReasonCause) → IsPartlyRefused t r pieces origin location d cause → IsPartRefused t r pieces cause
  part_refused cause h = inr (op, d, number, reads, at_operation (λ o a. IsPartlyRefused t r pieces o a d cause) h)

  pub part_orders : (old new : List OrderPair) → AddsOnly old new (λ o. IsPieceOrder t r pieces origin location d o ⊎ IsInitialOrder t r pieces origin location d o) → AddsOnly old new (IsPartOrder t r pieces)
  part_orders old new added =
      adds_over old old new (λ o. IsPieceOrder t r pieces origin location d o ⊎ IsInitialOrder t r pieces origin location d o) (IsPartOrder t r pieces)
      (λ o h. (op, d, number, reads, at_operation (λ x a. IsPieceOrder t r pieces x a d o ⊎ IsInitialOrder t r pieces x a d o) h)) (λ o c. inl c) added

  pub are_others : (left : LeftSources) → left.location.now ≡ location → (start : List LeftStretch) → start ≡ [] → KeepsOnly start left.stretches.items (IsOtherStretch t r pieces origin location d) → (left.is_initial_left ≡ true → IsInitialOther t pieces origin location d) → AreOthers t r pieces left
  are_others left same start none stretches initial = record {
    op = op;
    value = d;
    number = number;
    reads = reads;
    location_is = same ∙ location_is;
    stretches = λ x c. at_operation (λ o a. IsOtherStretch t r pieces o a d x) (other x (stretches x c));
    initial = λ is. at_operation (λ o a. IsInitialOther t pieces o a d) (initial is);
  }
    where
      other : (x : LeftStretch) → Contains start x ⊎ IsOtherStretch t r pieces origin location d x → IsOtherStretch t r pieces origin location d x
      other x (inl c) = absurd (none_in x (subst (λ l. Contains l x) none c))
      other x (inr h) = h
