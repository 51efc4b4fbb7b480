-- The stretches of sources in a process ask for the orders of their pieces, and are refused as these.
use Rattle.std.proofs.Common.{◌≡◌, ◌≤◌, ◌<◌, ◌-◌, ◌⊎◌, ℕ, List, length, true, false, refl, ap, sym, ◌∙◌, arith, inl, inr, subst}
use Rattle.std.specs.Prelude.{Option, Some, slice_index, is_some}
use Rattle.std.specs.List.{Contains}
use Rattle.std.specs.List.Sorted.{IsNonDecreasing}
use Rattle.std.proofs.lemmas.Bool.{cases_lt, cases_order}
use Rattle.std.proofs.lemmas.Grind.{get_or_default_zero}
use Rattle.trace_semantics.specs.declared.operation.Origin.{Origin}
use Rattle.trace_semantics.specs.Trace.{TraceValue}
use Rattle.writer_table.specs.declared.operation_place.OperationPlace.{OperationPlace}
use Rattle.writer_table.specs.declared.runs.Run.{Run}
use Rattle.order_clauses.specs.declared.order_pair.OrderPair.{OrderPair}
use Rattle.order_clauses.specs.Numbered.{named}
use Rattle.order_reasons.specs.Sources.{AllowsWriter}
use Rattle.reason_clauses.specs.AddedOrders.{IsOrder}
use Rattle.reason_clauses.specs.LastBarred.{witness_of}
use Rattle.reason_clauses.specs.Numbered.{at_number}
use Rattle.reason_clauses.specs.OwnLast.{IsOwnLast, WritesBefore}
use Rattle.reason_clauses.specs.PieceOf.{piece_of}
use Rattle.reason_clauses.specs.PossibleSources.{IsFirstOf, IsHidden, IsLastOf, IsLater, IsLaterPlace, IsOther, IsOtherPlace, IsOtherRun, IsOwnExact}
use Rattle.reason_clauses.specs.SourceRefused.{AreNotGiven, NotWitness, NoBetween, Unwitnessed, IsMainNotGiven, IsSource, IsLastHidden, IsLastOther, IsFirstOther, IsStretchOrder}
use Rattle.reason_clauses.specs.SourceRefused.{IsPieceOrder, BeforeHiddenSource, AfterHiddenSource, FromLaterSource, IsMainOrder, BeforeOtherSource, AfterOtherSource, ToBetween, FromBetween, ToReader}
use Rattle.reason_clauses.specs.SourceRefused.{IsPartlyRefused, NotGiven, HiddenItself, IsReaderRefused, Partly, OtherItself}
use Rattle.reason_clauses.specs.StretchOrders.{AreCut, AreStretchesOf, IsFirstPlace, IsLastPlace, IsTakenOrder, BeforeHidden, AfterHidden, FromLater, IsRestOrder, BeforeRest, AfterRest, RestToBetween, RestFromBetween, RestToReader}
use Rattle.reason_clauses.specs.StretchOrders.{IsTakenRefused, TakenItself, TakenUnwitnessed, IsRestRefused}
use Rattle.reason_clauses.specs.declared.barring.MainPiece.{MainPiece}
use Rattle.reason_clauses.specs.declared.barring.MainPiece.TheVariants.{Witness, Between}
use Rattle.reason_clauses.specs.declared.cause.ReasonCause.{ReasonCause}
use Rattle.reason_clauses.specs.declared.pieces.ProcessPieces.{ProcessPieces}
use Rattle.reason_clauses.specs.declared.pieces.SourcePieces.{SourcePieces}
use Rattle.reason_clauses.specs.declared.stretches.Stretches.{Stretches}

module _ (r : OperationPlace) (q : ℕ) (s : Stretches) where
  pub front_orders : (witness : Option OperationPlace) (x : OperationPlace) → 1 ≤ s.hidden → witness ≡ Some x → (o : OrderPair) → IsOrder x (at_number q s.hidden) o ⊎ IsOrder r x o → IsTakenOrder r q s witness o
  front_orders witness x some is o (inl h) = BeforeHidden x some is h
  front_orders witness x some is o (inr h) = AfterHidden x some is h

  pub witness_orders : (main : MainPiece) (x : OperationPlace) → 1 ≤ s.first → main ≡ Witness x → (o : OrderPair) → IsOrder x (at_number q s.last) o ⊎ IsOrder r x o → IsRestOrder r q s main o
  witness_orders main x some is o (inl h) = BeforeRest x some is h
  witness_orders main x some is o (inr h) = AfterRest x some is h

  pub between_orders : (main : MainPiece) (u : OperationPlace) → 1 ≤ s.first → main ≡ Between u → (o : OrderPair) → IsOrder (at_number q s.first) u o ⊎ IsOrder u r o → IsRestOrder r q s main o
  between_orders main u some is o (inl h) = RestToBetween u some is h
  between_orders main u some is o (inr h) = RestFromBetween u some is h

-- the places of a list at and after an index are those from the place there on
module _ (places : List ℕ) (rising : IsNonDecreasing places) where
  at_index : (p : ℕ) → Contains places p → (k : ℕ) × (k < length places) × (slice_index places k ≡ p)
  at_index p c = (c.0, c.1, sym (get_or_default_zero places c.0 p c.1) ∙ c.2)

  listed : (k : ℕ) → k < length places → Contains places (slice_index places k)
  listed k low = (k, low, get_or_default_zero places k (slice_index places k) low)

  -- where stretches are cut by the places up to a bound and before a limit, they are those of the list
  pub stretches_cut : (bound limit up_to before : ℕ) (s : Stretches) → up_to ≤ length places → before ≤ length places → ((k : ℕ) → k < up_to → slice_index places k ≤ bound) → ((k : ℕ) → up_to ≤ k → k < length places → bound < slice_index places k) →
      ((k : ℕ) → k < before → (limit ≡ 0) ⊎ (slice_index places k < limit)) → ((k : ℕ) → before ≤ k → k < length places → (1 ≤ limit) × (limit ≤ slice_index places k)) → AreCut places up_to before s → AreStretchesOf (Contains places) bound limit s
  stretches_cut bound limit up_to before s up_to_in before_in low high early late cut = record { hidden = hidden_last; later = later_first; first = rest_first; last = rest_last }
    where
      hidden_last : 1 ≤ s.hidden → IsLastPlace (λ k. Contains places k × (k ≤ bound)) s.hidden
      hidden_last some =
          let at = cut.hidden some in
          let below : up_to - 1 < up_to = (let least = at.0 in omega (arith, least)) in
          subst (λ n. IsLastPlace (λ k. Contains places k × (k ≤ bound)) n) (sym at.1)
          ((listed (up_to - 1) (omega (arith, below, up_to_in)), low (up_to - 1) below), λ p h. upper p h.0 h.1 at.0)
        where
          upper : (p : ℕ) → Contains places p → p ≤ bound → 1 ≤ up_to → p ≤ slice_index places (up_to - 1)
          upper p c within least =
              let i = at_index p c in
              elim (cases_lt i.0 up_to) [
                | inl less ↦ subst (λ n. n ≤ slice_index places (up_to - 1)) i.2 (rising i.0 (up_to - 1) 0 (omega (arith, less)) (omega (arith, least, up_to_in)))
                | inr over ↦ absurd (let past = high i.0 over i.1 in let e = i.2 in omega (arith, past, e, within))
              ]

      rest_first : 1 ≤ s.first → IsFirstPlace (λ k. Contains places k × IsOtherPlace bound limit k) s.first
      rest_first some =
          let at = cut.first some in
          let inside : up_to < length places = (let less = at.0 in omega (arith, less, before_in)) in
          subst (λ n. IsFirstPlace (λ k. Contains places k × IsOtherPlace bound limit k) n) (sym at.1)
          ((listed up_to inside, (high up_to (omega arith) inside, early up_to at.0)), λ p h. from_there p h.0 h.1.0)
        where
          from_there : (p : ℕ) → Contains places p → bound < p → slice_index places up_to ≤ p
          from_there p c past =
              let i = at_index p c in
              elim (cases_lt i.0 up_to) [
                | inl less ↦ absurd (let within = low i.0 less in let e = i.2 in omega (arith, past, e, within))
                | inr over ↦ subst (λ n. slice_index places up_to ≤ n) i.2 (rising up_to i.0 0 over i.1)
              ]

      rest_last : 1 ≤ s.first → IsLastPlace (λ k. Contains places k × IsOtherPlace bound limit k) s.last
      rest_last some =
          let less = (cut.first some).0 in
          let inside : before - 1 < length places = omega (arith, less, before_in) in
          subst (λ n. IsLastPlace (λ k. Contains places k × IsOtherPlace bound limit k) n) (sym (cut.last some))
          ((listed (before - 1) inside, (high (before - 1) (omega (arith, less)) inside, early (before - 1) (omega (arith, less)))), λ p h. up_to_there p h.0 h.1.1 less)
        where
          up_to_there : (p : ℕ) → Contains places p → (limit ≡ 0) ⊎ (p < limit) → up_to < before → p ≤ slice_index places (before - 1)
          up_to_there p c under less =
              let i = at_index p c in
              elim (cases_lt i.0 before) [
                | inl low_index ↦ subst (λ n. n ≤ slice_index places (before - 1)) i.2 (rising i.0 (before - 1) 0 (omega (arith, low_index)) (omega (arith, less, before_in)))
                | inr over ↦ (let from = late i.0 over i.1 in let least = from.0 in let above = from.1 in let e = i.2 in elim under [
                  | inl none ↦ absurd (omega (arith, least, none))
                  | inr below ↦ absurd (omega (arith, above, e, below))
                ])
              ]

      later_first : 1 ≤ s.later → IsFirstPlace (λ k. Contains places k × IsLaterPlace bound limit k) s.later
      later_first some =
          let at = cut.later some in
          let from = late at.0 at.3 at.1 in
          subst (λ n. IsFirstPlace (λ k. Contains places k × IsLaterPlace bound limit k) n) (sym at.5)
          ((listed at.0 at.1, (high at.0 at.2 at.1, from.0, from.1)), λ p h. from_there p h.0 h.1.0 h.1.1 h.1.2 at.0 at.4)
        where
          from_there : (p : ℕ) → Contains places p → bound < p → 1 ≤ limit → limit ≤ p → (start : ℕ) → (start ≡ up_to) ⊎ (start ≡ before) → slice_index places start ≤ p
          from_there p c past least above start one =
              let i = at_index p c in
              elim (cases_lt i.0 start) [
                | inr over ↦ subst (λ n. slice_index places start ≤ n) i.2 (rising start i.0 0 over i.1)
                | inl less ↦ elim one [
                  | inl is ↦ absurd (let within = low i.0 (omega (arith, less, is)) in let e = i.2 in omega (arith, past, e, within))
                  | inr is ↦ elim (early i.0 (omega (arith, less, is))) [
                    | inl none ↦ absurd (omega (arith, least, none))
                    | inr below ↦ absurd (let e = i.2 in omega (arith, above, e, below))
                  ]
                ]
              ]

-- stretches of the same places
pub stretches_same : (P Q : ℕ → Type 0) (bound limit : ℕ) (s : Stretches) → ((k : ℕ) → P k → Q k) → ((k : ℕ) → Q k → P k) → AreStretchesOf P bound limit s → AreStretchesOf Q bound limit s
stretches_same P Q bound limit s there back so = record {
  hidden = λ some. (let at = so.hidden some in ((there s.hidden at.0.0, at.0.1), λ k h. at.1 k (back k h.0, h.1)));
  later = λ some. (let at = so.later some in ((there s.later at.0.0, at.0.1), λ k h. at.1 k (back k h.0, h.1)));
  first = λ some. (let at = so.first some in ((there s.first at.0.0, at.0.1), λ k h. at.1 k (back k h.0, h.1)));
  last = λ some. (let at = so.last some in ((there s.last at.0.0, at.0.1), λ k h. at.1 k (back k h.0, h.1)));
}

-- a main piece that is not given is one of the pieces
pub main_not_given : (t : TraceValue) (location : List ℕ) (d : ℕ) (r : OperationPlace) (pieces : SourcePieces) (main : MainPiece) → main ≡ pieces.main → (cause : ReasonCause) → IsMainNotGiven t location d r main cause → AreNotGiven t location d r pieces cause
main_not_given t location d r pieces main is cause (inl (x, witness, none)) = NotWitness x (inr (inr (ap witness_of (sym is) ∙ witness))) none
main_not_given t location d r pieces main is cause (inr (u, between, missing)) = NoBetween u (sym is ∙ between) missing

-- before a reader one operation at most is the last that writes
one_last : (t : TraceValue) (r : OperationPlace) (location : List ℕ) (a b : ℕ) → IsOwnLast t r location a → IsOwnLast t r location b → a < b → ⊥
one_last t r location a b first second less = at second.there
  where
    at : (b ≡ 0) ⊎ WritesBefore t r location b → ⊥
    at (inl none) = absurd (omega (arith, less, none))
    at (inr (before, known, writes)) = absurd (let silent = first.silent b less before known in let clash : true ≡ false = sym writes ∙ ap is_some silent in cc)

pub same_last : (t : TraceValue) (r : OperationPlace) (location : List ℕ) (a b : ℕ) → IsOwnLast t r location a → IsOwnLast t r location b → a ≡ b
same_last t r location a b first second = elim (cases_order a b) [
  | inl e ↦ e
  | inr (inl less) ↦ absurd (one_last t r location a b first second less)
  | inr (inr over) ↦ absurd (one_last t r location b a second first over)
]

module _ (t : TraceValue) (r : OperationPlace) (pieces : SourcePieces) (origin : Origin) (location : List ℕ) (d : ℕ) where
  -- the places of sources in a process
  abbrev pub IsSourceIn : ℕ → ℕ → Type 0
  IsSourceIn q k = IsSource t r pieces origin location d (at_number q k)

  -- of a whole run of another process than r's those are sources from which the value may be
  pub run_sources : (run : Run) (bound limit : ℕ) (s : Stretches) → IsOtherRun t r location d run → AreStretchesOf (λ k. Contains run.places k × AllowsWriter origin (named t (at_number run.process k))) bound limit s → AreStretchesOf (IsSourceIn run.process) bound limit s
  run_sources run bound limit s (whole, other) so =
      stretches_same (λ k. Contains run.places k × AllowsWriter origin (named t (at_number run.process k))) (IsSourceIn run.process) bound limit s
      (λ k h. source k h.0 h.1) (λ k h. (whole.all k h.known h.leaves, h.allowed)) so
    where
      source : (k : ℕ) → Contains run.places k → AllowsWriter origin (named t (at_number run.process k)) → IsSourceIn run.process k
      source k c allowed = record { known = (whole.only k c).0; leaves = (whole.only k c).1; allowed = allowed; own = λ same. absurd (other same) }

  -- in r's own process one operation at most is a source
  pub own_sources : (own bound limit : ℕ) (s : Stretches) → IsSourceIn r.process own → AreStretchesOf (λ k. k ≡ own) bound limit s → AreStretchesOf (IsSourceIn r.process) bound limit s
  own_sources own bound limit s is so =
      stretches_same (λ k. k ≡ own) (IsSourceIn r.process) bound limit s (λ k e. subst (IsSourceIn r.process) (sym e) is) (λ k h. same_last t r location k own (h.own refl) (is.own refl)) so

  module _ (q : ℕ) (s : Stretches) (so : AreStretchesOf (IsSourceIn q) (piece_of pieces.processes.items q).bound (piece_of pieces.processes.items q).limit s) where
    first_of : (Is : OperationPlace → Type 0) (n : ℕ) → IsFirstPlace (λ k. Is (at_number q k)) n → IsFirstOf Is (at_number q n)
    first_of Is n h = (h.0, λ w same is. h.1 w.place (subst Is (λ i. record { process = same i; place = w.place }) is))

    last_of : (Is : OperationPlace → Type 0) (n : ℕ) → IsLastPlace (λ k. Is (at_number q k)) n → IsLastOf Is (at_number q n)
    last_of Is n h = (h.0, λ w same is. h.1 w.place (subst Is (λ i. record { process = same i; place = w.place }) is))

    hidden_last : (x : OperationPlace) → 1 ≤ s.hidden → (piece_of pieces.processes.items q).witness ≡ Some x → IsLastHidden t r pieces origin location d x (at_number q s.hidden)
    hidden_last x some is = (is, last_of (λ w. IsSource t r pieces origin location d w × IsHidden pieces w) s.hidden (so.hidden some))

    other_last : (x : OperationPlace) → 1 ≤ s.first → pieces.main ≡ Witness x → IsLastOther t r pieces origin location d x (at_number q s.last)
    other_last x some is = (ap witness_of is, last_of (λ w. IsSource t r pieces origin location d w × IsOther pieces w) s.last (so.last some))

    other_first : 1 ≤ s.first → IsFirstOther t r pieces origin location d (at_number q s.first)
    other_first some = first_of (λ w. IsSource t r pieces origin location d w × IsOther pieces w) s.first (so.first some)

    -- what the stretches of a process ask for the pieces do
    pub piece_order : (o : OrderPair) → IsTakenOrder r q s (piece_of pieces.processes.items q).witness o → IsPieceOrder t r pieces origin location d o
    piece_order o (BeforeHidden x some is h) = BeforeHiddenSource x (at_number q s.hidden) (hidden_last x some is) h
    piece_order o (AfterHidden x some is h) = AfterHiddenSource x (at_number q s.hidden) (hidden_last x some is) h
    piece_order o (FromLater some h) = FromLaterSource (at_number q s.later) (first_of (λ w. IsSource t r pieces origin location d w × IsLater pieces w) s.later (so.later some)) h

    pub main_order : (o : OrderPair) → IsRestOrder r q s pieces.main o → IsMainOrder t r pieces origin location d o
    main_order o (BeforeRest x some is h) = BeforeOtherSource x (at_number q s.last) (other_last x some is) h
    main_order o (AfterRest x some is h) = AfterOtherSource x (at_number q s.last) (other_last x some is) h
    main_order o (RestToBetween u some is h) = ToBetween u (at_number q s.first) is (other_first some) h
    main_order o (RestFromBetween u some is h) = FromBetween u (at_number q s.first) is (other_first some) h
    main_order o (RestToReader some is h) = ToReader (at_number q s.first) is (other_first some) h

    pub stretch_order : (o : OrderPair) → IsTakenOrder r q s (piece_of pieces.processes.items q).witness o ⊎ IsRestOrder r q s pieces.main o → IsStretchOrder t r pieces origin location d o
    stretch_order o (inl h) = inl (piece_order o h)
    stretch_order o (inr h) = inr (main_order o h)

    -- and where they are refused the pieces are
    pub taken_refused : (cause : ReasonCause) → IsTakenRefused q s (piece_of pieces.processes.items q).witness cause → IsPartlyRefused t r pieces origin location d cause
    taken_refused cause (TakenItself some is e) = HiddenItself (at_number q s.hidden) (hidden_last (at_number q s.hidden) some is) e
    taken_refused cause (TakenUnwitnessed some none e) = NotGiven (Unwitnessed q (let within = (so.hidden some).0.1 in omega (arith, some, within)) none e)

    pub rest_refused : (cause : ReasonCause) → IsRestRefused q s pieces.main cause → IsReaderRefused t r pieces origin location d cause
    rest_refused cause (some, is, e) = OtherItself (at_number q s.last) (other_last (at_number q s.last) some is) e

    pub stretch_refused : (cause : ReasonCause) → IsTakenRefused q s (piece_of pieces.processes.items q).witness cause ⊎ IsRestRefused q s pieces.main cause → IsReaderRefused t r pieces origin location d cause
    stretch_refused cause (inl h) = Partly (taken_refused cause h)
    stretch_refused cause (inr h) = rest_refused cause h

  module _ (q : ℕ) (s : Stretches) (piece : ProcessPieces) (main : MainPiece) (is : piece ≡ piece_of pieces.processes.items q) (main_is : main ≡ pieces.main) (so : AreStretchesOf (IsSourceIn q) piece.bound piece.limit s) where
    of_process : AreStretchesOf (IsSourceIn q) (piece_of pieces.processes.items q).bound (piece_of pieces.processes.items q).limit s
    of_process = subst (λ (p : ProcessPieces). AreStretchesOf (IsSourceIn q) p.bound p.limit s) is so

    pub order_by : (o : OrderPair) → IsTakenOrder r q s piece.witness o ⊎ IsRestOrder r q s main o → IsStretchOrder t r pieces origin location d o
    order_by o h =
        stretch_order q s of_process o
        (subst (λ (p : ProcessPieces). IsTakenOrder r q s p.witness o ⊎ IsRestOrder r q s pieces.main o) is (subst (λ (m : MainPiece). IsTakenOrder r q s piece.witness o ⊎ IsRestOrder r q s m o) main_is h))

    pub refused_by : (cause : ReasonCause) → IsTakenRefused q s piece.witness cause ⊎ IsRestRefused q s main cause → IsReaderRefused t r pieces origin location d cause
    refused_by cause h =
        stretch_refused q s of_process cause
        (subst (λ (p : ProcessPieces). IsTakenRefused q s p.witness cause ⊎ IsRestRefused q s pieces.main cause) is (subst (λ (m : MainPiece). IsTakenRefused q s piece.witness cause ⊎ IsRestRefused q s m cause) main_is h))

  pub own_in : (own : ℕ) → (own ≡ 0 → ⊥) → IsOwnExact t r origin location d own → IsSourceIn r.process own
  own_in own some (inl none) = absurd (some none)
  own_in own some (inr is) = is
