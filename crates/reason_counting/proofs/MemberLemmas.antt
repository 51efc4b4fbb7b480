-- Updates and ends of locations whose sources are barred or kept, and more than what is kept, make a counting clause.
use Rattle.std.proofs.Common.{◌≡◌, ◌≢◌, ◌⊎◌, ◌<◌, ◌≤◌, ◌+◌, ℕ, List, [], ◌∷◌, ◌++◌, map, length, get_or, true, refl, ap, sym, ◌∙◌, arith, inl, inr, subst}
use Rattle.std.specs.Borrow.{Bor}
use Rattle.std.specs.Prelude.{Option, IsSome, is_some}
use Rattle.std.specs.List.{All, Contains}
use Rattle.std.specs.Option.{option_and_then}
use Rattle.std.proofs.lemmas.Bool.{cases_order}
use Rattle.std.proofs.lemmas.List.{get_or_default, length-append, length-map}
use Rattle.std.proofs.lemmas.List.Elements.{All-contains, Contains-append_left, Contains-append_right, Contains-append_cases}
use Rattle.trace_semantics.specs.declared.operation.Op.{Op}
use Rattle.trace_semantics.specs.declared.operation.OpName.{OpName}
use Rattle.trace_semantics.specs.Trace.{TraceValue, IsTrace}
use Rattle.trace_semantics.specs.ValueAfter.{value_left_at}
use Rattle.trace_semantics.proofs.ElementLemmas.{from_map, to_map, none_in}
use Rattle.restriction.specs.Restriction.{left_by}
use Rattle.restriction.proofs.OrderedPairLemmas.{all_from, pairs_mapped}
use Rattle.writer_table.specs.declared.operation_place.OperationPlace.{OperationPlace}
use Rattle.writer_table.specs.declared.runs.Run.{Run}
use Rattle.writer_table.specs.declared.trace_writers.TraceWriters.{TraceWriters}
use Rattle.writer_table.specs.Writers.{runs_at}
use Rattle.order_clauses.specs.declared.order_pair.OrderPair.{OrderPair}
use Rattle.order_clauses.specs.Numbered.{named, IsKnown}
use Rattle.order_reasons.specs.Counting.{NeedsSource, BarsAllBut, IsCountingClause}
use Rattle.order_reasons.specs.Counting.{Update as UpdateNeed, End as EndNeed}
use Rattle.order_reasons.specs.Sources.{ValueSource, LeftBy, InitialAt, IsBarred, IsInitialBarred, IsLastBarred, BarsSources, BarsLastWriters}
use Rattle.trace_semantics.specs.Operation.{location_of}
use Rattle.reason_clauses.specs.Made.{Makes}
use Rattle.reason_clauses.specs.Makers.{IsNumberOf}
use Rattle.reason_clauses.specs.Numbered.{Grows, at_number}
use Rattle.reason_clauses.specs.declared.pieces.SourcePieces.{SourcePieces}
use Rattle.reason_clauses.proofs.MakerLemmas.{number_known}
use Rattle.reason_clauses.proofs.NumberLemmas.{numbers_apart}
use Rattle.reason_counting.specs.declared.counted_members.CountedMember.{CountedMember}
use Rattle.reason_counting.specs.declared.counted_members.CountedMember.TheVariants.{Update, End}
use Rattle.reason_counting.specs.declared.distinct_sources.DistinctSources.{DistinctSources}
use Rattle.reason_counting.specs.declared.left_sources.LeftSources.{LeftSources}
use Rattle.reason_counting.specs.declared.left_sources.LeftStretch.{LeftStretch}
use Rattle.reason_counting.specs.CountedMembers.{AreDistinct, AreFirstBarred, AreTwo, BarsMember, IsMemberBarred, IsRunKept, IsStretchKept, need_of, needs_listed}
use Rattle.reason_counting.specs.DistinctSources.{HasAll, HasLocation, sources_kept}
use Rattle.reason_counting.specs.Left.{IsLeft}

module _ {A : Type 0} (P : A → Type 0) where
  pub all_none : All P []
  all_none = all_from P [] (λ x c. absurd (none_in x c))

pub has_same : (kept : DistinctSources) → HasAll kept kept
has_same kept = record { operations = λ n c. c; locations = λ a c. c }

-- one operation more
pub has_pushed : (old new : DistinctSources) (n : OperationPlace) → new.operations.items ≡ old.operations.items ++ n ∷ [] → new.locations.items ≡ old.locations.items → HasAll old new
has_pushed old new n operations locations = record {
  operations = λ m c. subst (λ (l : List OperationPlace). Contains l m) (sym operations) (Contains-append_left old.operations.items (n ∷ []) m c);
  locations = λ a h. subst (λ (l : List (Bor (List ℕ))). HasLocation l a) (sym locations) h;
}

-- one location more
pub has_placed : (old new : DistinctSources) (x : Bor (List ℕ)) → new.operations.items ≡ old.operations.items → new.locations.items ≡ old.locations.items ++ x ∷ [] → HasAll old new
has_placed old new x operations locations = record {
  operations = λ m c. subst (λ (l : List OperationPlace). Contains l m) (sym operations) c;
  locations = λ a h. subst (λ (l : List (Bor (List ℕ))). HasLocation l a) (sym locations) (h.0, Contains-append_left old.locations.items (x ∷ []) h.0 h.1, h.2);
}

pub has_over : (a b c : DistinctSources) → HasAll a b → HasAll b c → HasAll a c
has_over a b c f g = record { operations = λ n h. g.operations n (f.operations n h); locations = λ l h. g.locations l (f.locations l h) }

-- places that were kept are kept still
pub all_kept : (process : ℕ) (stretch : LeftStretch) (old new : DistinctSources) (places : List ℕ) → HasAll old new → All (λ (k : ℕ). stretch.first ≤ k → k ≤ stretch.last → Contains old.operations.items (at_number process k)) places →
    All (λ (k : ℕ). stretch.first ≤ k → k ≤ stretch.last → Contains new.operations.items (at_number process k)) places
all_kept process stretch old new places more all = λ i d low least most. more.operations (at_number process (get_or places i d)) (all i d low least most)

run_kept : (old new : DistinctSources) (stretch : LeftStretch) (run : Run) → HasAll old new → IsRunKept old stretch run → IsRunKept new stretch run
run_kept old new stretch run more h same k there least most = more.operations (at_number run.process k) (h same k there least most)

pub runs_kept : (old new : DistinctSources) (stretch : LeftStretch) (runs : List Run) → HasAll old new → All (IsRunKept old stretch) runs → All (IsRunKept new stretch) runs
runs_kept old new stretch runs more all = λ i d low. run_kept old new stretch (get_or runs i d) more (all i d low)

pub stretches_kept : (writers : TraceWriters) (location : List ℕ) (old new : DistinctSources) (stretches : List LeftStretch) → HasAll old new → All (IsStretchKept writers location old) stretches → All (IsStretchKept writers location new) stretches
stretches_kept writers location old new stretches more all = λ i d low. runs_kept old new (get_or stretches i d) (runs_at writers location (get_or stretches i d).value) more (all i d low)

abbrev operation_source : TraceValue → OperationPlace → ValueSource
operation_source t n = LeftBy (named t n)

abbrev initial_source : Bor (List ℕ) → ValueSource
initial_source x = InitialAt x.now

-- what is kept by number is kept by name
pub operation_kept : (t : TraceValue) (kept : DistinctSources) (n : OperationPlace) → Contains kept.operations.items n → Contains (sources_kept t kept) (LeftBy (named t n))
operation_kept t kept n c = Contains-append_left (map (operation_source t) kept.operations.items) (map initial_source kept.locations.items) (LeftBy (named t n)) (to_map (operation_source t) kept.operations.items n c)

pub location_kept : (t : TraceValue) (kept : DistinctSources) (location : List ℕ) → HasLocation kept.locations.items location → Contains (sources_kept t kept) (InitialAt location)
location_kept t kept location (x, c, e) =
    subst (λ a. Contains (sources_kept t kept) (InitialAt a)) e (Contains-append_right (map (operation_source t) kept.operations.items) (map initial_source kept.locations.items) (InitialAt x.now) (to_map initial_source kept.locations.items x c))

pub sources_more : (t : TraceValue) (old new : DistinctSources) → HasAll old new → (s : ValueSource) → Contains (sources_kept t old) s → Contains (sources_kept t new) s
sources_more t old new more s c =
    elim (Contains-append_cases (map (operation_source t) old.operations.items) (map initial_source old.locations.items) s c) [
      | inl h ↦ (let at = from_map (operation_source t) old.operations.items s h in subst (λ x. Contains (sources_kept t new) x) at.2 (operation_kept t new at.0 (more.operations at.0 at.1)))
      | inr h ↦ (let at = from_map initial_source old.locations.items s h in subst (λ x. Contains (sources_kept t new) x) at.2 (location_kept t new at.0.now (more.locations at.0.now (at.0, at.1, refl))))
    ]

-- what is left is kept
pub left_kept : (t : TraceValue) (writers : TraceWriters) (kept : DistinctSources) (left : LeftSources) → All (IsStretchKept writers left.location.now kept) left.stretches.items → (left.is_initial_left ≡ true → HasLocation kept.locations.items left.location.now) → (s : ValueSource) → IsLeft t writers left s → Contains (sources_kept t kept) s
left_kept t writers kept left all start (LeftBy w) by =
    let stretch = All-contains (IsStretchKept writers left.location.now kept) left.stretches.items by.stretch all by.kept in
    let run = All-contains (IsRunKept kept by.stretch) (runs_at writers left.location.now by.stretch.value) by.run stretch by.listed in
    subst (λ x. Contains (sources_kept t kept) (LeftBy x)) by.named_so (operation_kept t kept (at_number by.run.process by.place) (run (sym by.process) by.place by.there by.least by.most))
left_kept t writers kept left all start (InitialAt location) (is, e) = subst (λ a. Contains (sources_kept t kept) (InitialAt a)) (sym e) (location_kept t kept left.location.now (start is))

-- the same for other sources that are let be
module _ (t : TraceValue) (clause : List (OpName × OpName)) (P Q : ValueSource → Type 0) (f : (s : ValueSource) → P s → Q s) where
  either : (B : Type 0) (s : ValueSource) → B ⊎ P s → B ⊎ Q s
  either B s (inl b) = inl b
  either B s (inr h) = inr (f s h)

  sources_let : (r : OpName) → BarsSources t clause r P → BarsSources t clause r Q
  sources_let r b = record {
    op = b.op;
    value = b.value;
    known = b.known;
    reads = b.reads;
    writers = λ w leaves allowed. either (IsBarred t clause (location_of b.op) b.value r w) (LeftBy w) (b.writers w leaves allowed);
    initial = λ held allowed. either (IsInitialBarred t clause (location_of b.op) b.value r) (InitialAt (location_of b.op)) (b.initial held allowed);
  }

  lasts_let : (location : List ℕ) → BarsLastWriters t clause location P → BarsLastWriters t clause location Q
  lasts_let location b = record {
    writer = b.writer;
    writes = b.writes;
    writers = λ w e leaves final_one. either (IsLastBarred t clause location w) (LeftBy w) (b.writers w e leaves final_one);
  }

pub bars_all_but : (t : TraceValue) (clause : List (OpName × OpName)) (P : ValueSource → Type 0) (left : List ValueSource) → ((s : ValueSource) → P s → Contains left s) → (member : CountedMember) → BarsMember t clause P member → BarsAllBut t clause left (need_of t member)
bars_all_but t clause P left f (Update n pieces) (writes, b) = (writes, sources_let t clause P (Contains left) f (named t n) b)
bars_all_but t clause P left f (End location pieces) b = lasts_let t clause P (Contains left) f location.now b

bars_more : (t : TraceValue) (clause : List (OpName × OpName)) (old new : List ValueSource) → ((s : ValueSource) → Contains old s → Contains new s) → (member : CountedMember) → BarsAllBut t clause old (need_of t member) → BarsAllBut t clause new (need_of t member)
bars_more t clause old new f (Update n pieces) (writes, b) = (writes, sources_let t clause (Contains old) (Contains new) f (named t n) b)
bars_more t clause old new f (End location pieces) b = lasts_let t clause (Contains old) (Contains new) f location.now b

-- a member that is barred stays so
member_more : (t : TraceValue) (old new : List OrderPair) (kept more : DistinctSources) (member : CountedMember) → Grows old new → HasAll kept more → IsMemberBarred t old kept member → IsMemberBarred t new more member
member_more t old new kept more member grows has (known, bars) = (known, λ clause all. bars_more t clause (sources_kept t kept) (sources_kept t more) (sources_more t kept more has) member (bars clause (grows t clause all)))

pub first_barred_next : (t : TraceValue) (old new : List OrderPair) (kept more : DistinctSources) (members : List CountedMember) (n : ℕ) (member : CountedMember) → Grows old new → HasAll kept more → AreFirstBarred t old kept members n → n < length members → get_or members n member ≡ member → IsMemberBarred t new more member →
    AreFirstBarred t new more members (n + 1)
first_barred_next t old new kept more members n member grows has so low at h j d less =
    elim (cases_order j n) [
      | inl e ↦ subst (λ (m : CountedMember). IsMemberBarred t new more m) (sym (ap (λ i. get_or members i d) e ∙ get_or_default members n d member low ∙ at)) h
      | inr (inl lower) ↦ member_more t old new kept more (get_or members j d) grows has (so j d lower)
      | inr (inr higher) ↦ absurd (omega (arith, less, higher))
    ]

pub two_next : (members : List CountedMember) (k j : ℕ) (x y : CountedMember) → ((i : ℕ) (d : CountedMember) → i < j → AreTwo (get_or members i d) (get_or members k d)) → j < length members → k < length members → get_or members j x ≡ x → get_or members k y ≡ y → AreTwo x y →
    (i : ℕ) (d : CountedMember) → i < j + 1 → AreTwo (get_or members i d) (get_or members k d)
two_next members k j x y so low high at there two i d less =
    elim (cases_order i j) [
      | inl e ↦ subst (λ (a : CountedMember). AreTwo a (get_or members k d)) (sym (ap (λ n. get_or members n d) e ∙ get_or_default members j d x low ∙ at)) (subst (λ (b : CountedMember). AreTwo x b) (sym (get_or_default members k d y high ∙ there)) two)
      | inr (inl lower) ↦ so i d lower
      | inr (inr higher) ↦ absurd (omega (arith, less, higher))
    ]

-- the first n of them and one more are distinct
pub distinct_next : (members : List CountedMember) (n : ℕ) → AreDistinct members n → ((j : ℕ) (d : CountedMember) → j < n → AreTwo (get_or members j d) (get_or members n d)) → AreDistinct members (n + 1)
distinct_next members n so here i j d less low =
    elim (cases_order j n) [
      | inl e ↦ subst (λ k. AreTwo (get_or members i d) (get_or members k d)) (sym e) (here i d (omega (arith, less, e)))
      | inr (inl lower) ↦ so i j d less lower
      | inr (inr higher) ↦ absurd (omega (arith, low, higher))
    ]

-- members that are distinct and barred, and more than what is kept
pub counting_by : (t : TraceValue) → IsTrace t → (new : List OrderPair) (kept : DistinctSources) (members : List CountedMember) → AreDistinct members (length members) → AreFirstBarred t new kept members (length members) → length kept.operations.items + length kept.locations.items < length members →
    Makes t new (λ clause. IsCountingClause t clause (needs_listed t members) (sources_kept t kept))
counting_by t ok new kept members distinct barred fewer clause all = record {
  distinct = pairs_mapped (λ (x y : CountedMember). need_of t x ≢ need_of t y) (λ (x y : NeedsSource). x ≢ y) (need_of t) members
      (λ i j d less low. distinct i j d less low t ok (barred i d (omega (arith, less, low))).0 (barred j d low).0) (λ x y c d h. h);
  bars = λ x c. (
      let at = from_map (need_of t) members x c in
      let index = at.1 in
      let h = barred index.0 at.0 index.1 in
      subst (λ y. BarsAllBut t clause (sources_kept t kept) y) (ap (need_of t) index.2 ∙ at.2) (h.1 clause all));
  more = (
      let long = length-append (map (operation_source t) kept.operations.items) (map initial_source kept.locations.items) in
      let one = length-map kept.operations.items (operation_source t) in
      let two = length-map kept.locations.items initial_source in
      let needs = length-map members (need_of t) in
      omega (arith, fewer, long, one, two, needs));
}

-- an operation that reads, and leaves a value at a location, is an update
pub update_known : (t : TraceValue) (n : OperationPlace) (op : Op) (location : List ℕ) (left : Option ℕ) → IsNumberOf t n op → left ≡ left_by location op → IsSome left → IsKnown t n × ((a : List ℕ) × IsSome (value_left_at t a (named t n)))
update_known t n op location left number e some = (number_known t n op number, (location, ap (λ o. is_some (option_and_then (left_by location) o)) number.1 ∙ ap is_some (sym e) ∙ some))

same_update : (x y : OpName) → UpdateNeed x ≡ UpdateNeed y → x ≡ y
same_update x y e = cc

same_end : (a b : List ℕ) → EndNeed a ≡ EndNeed b → a ≡ b
same_end a b e = cc

-- two updates of different numbers
pub updates_apart : (m n : OperationPlace) (p q : SourcePieces) → (m ≡ n → ⊥) → AreTwo (Update m p) (Update n q)
updates_apart m n p q other t ok m_known n_known e = other (numbers_apart t ok m n m_known n_known (same_update (named t m) (named t n) e))

pub updates_two : (x y : CountedMember) (m n : OperationPlace) (p q : SourcePieces) → x ≡ Update m p → y ≡ Update n q → (m ≡ n → ⊥) → AreTwo x y
updates_two x y m n p q e f other = subst (λ (a : CountedMember). AreTwo a y) (sym e) (subst (λ (b : CountedMember). AreTwo (Update m p) b) (sym f) (updates_apart m n p q other))

-- two ends of different locations
pub ends_apart : (a b : Bor (List ℕ)) (p q : SourcePieces) → (a.now ≡ b.now → ⊥) → AreTwo (End a p) (End b q)
ends_apart a b p q other t ok a_known b_known e = other (same_end a.now b.now e)

-- an update and an end
pub update_apart : (m : OperationPlace) (b : Bor (List ℕ)) (p q : SourcePieces) → AreTwo (Update m p) (End b q)
update_apart m b p q t ok m_known b_known e = absurd (cc)

pub end_apart : (a : Bor (List ℕ)) (n : OperationPlace) (p q : SourcePieces) → AreTwo (End a p) (Update n q)
end_apart a n p q t ok a_known n_known e = absurd (cc)
