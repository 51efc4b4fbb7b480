-- Updates and ends of locations that are counted, by numbers.
use Rattle.std.specs.Prelude.{◌≡◌, ◌≤◌, ◌<◌, ⊤, ℕ, List, map, IsSome, slice_index_or}
use Rattle.std.specs.List.{All, Contains}
use Rattle.trace_semantics.specs.declared.operation.OpName.{OpName}
use Rattle.trace_semantics.specs.Trace.{TraceValue, IsTrace}
use Rattle.trace_semantics.specs.ValueAfter.{value_left_at}
use Rattle.writer_table.specs.declared.operation_place.OperationPlace.{OperationPlace}
use Rattle.writer_table.specs.declared.runs.Run.{Run}
use Rattle.writer_table.specs.declared.trace_writers.TraceWriters.{TraceWriters}
use Rattle.writer_table.specs.Writers.{runs_at}
use Rattle.order_clauses.specs.declared.order_pair.OrderPair.{OrderPair}
use Rattle.order_clauses.specs.Numbered.{named, IsKnown}
use Rattle.order_reasons.specs.Counting.{NeedsSource, BarsAllBut}
use Rattle.order_reasons.specs.Counting.{Update as UpdateNeed, End as EndNeed}
use Rattle.order_reasons.specs.Sources.{ValueSource, BarsSources, BarsLastWriters}
use Rattle.reason_clauses.specs.Made.{Makes}
use Rattle.reason_clauses.specs.Numbered.{at_number}
use Rattle.reason_counting.specs.declared.counted_members.CountedMember.{CountedMember}
use Rattle.reason_counting.specs.declared.counted_members.CountedMember.TheVariants.{Update, End}
use Rattle.reason_counting.specs.declared.distinct_sources.DistinctSources.{DistinctSources}
use Rattle.reason_counting.specs.declared.left_sources.LeftStretch.{LeftStretch}
use Rattle.reason_counting.specs.DistinctSources.{sources_kept}

-- what the member needs a source for
abbrev pub need_of : TraceValue → CountedMember → NeedsSource
need_of t (Update n pieces) = UpdateNeed (named t n)
need_of t (End location pieces) = EndNeed location.now

abbrev pub needs_listed : TraceValue → List CountedMember → List NeedsSource
needs_listed t members = map (need_of t) members

-- the operation of the member is of the trace
abbrev pub IsMemberKnown : TraceValue → CountedMember → Type 0
IsMemberKnown t (Update n pieces) = IsKnown t n
IsMemberKnown t (End location pieces) = ⊤

-- the clause bars all sources of the member but those of some kind
abbrev pub BarsMember : TraceValue → List (OpName × OpName) → (ValueSource → Type 0) → CountedMember → Type 0
BarsMember t clause kept (Update n pieces) = ((location : List ℕ) × IsSome (value_left_at t location (named t n))) × BarsSources t clause (named t n) kept
BarsMember t clause kept (End location pieces) = BarsLastWriters t clause location.now kept

-- each clause that has the new orders bars all sources of the member but those that are kept
abbrev pub IsMemberBarred : TraceValue → List OrderPair → DistinctSources → CountedMember → Type 0
IsMemberBarred t new kept member = IsMemberKnown t member × Makes t new (λ clause. BarsAllBut t clause (sources_kept t kept) (need_of t member))

-- two members of the trace need two sources
abbrev pub AreTwo : CountedMember → CountedMember → Type 0
AreTwo x y = (t : TraceValue) → IsTrace t → IsMemberKnown t x → IsMemberKnown t y → need_of t x ≡ need_of t y → ⊥

-- the first n of the members are barred
abbrev pub AreFirstBarred : TraceValue → List OrderPair → DistinctSources → List CountedMember → ℕ → Type 0
AreFirstBarred t new kept members n = (j : ℕ) (d : CountedMember) → j < n → IsMemberBarred t new kept (slice_index_or members j d)

-- of the first n members no two need one source
abbrev pub AreDistinct : List CountedMember → ℕ → Type 0
AreDistinct members n = (i j : ℕ) (d : CountedMember) → i < j → j < n → AreTwo (slice_index_or members i d) (slice_index_or members j d)

-- the places of the run in the stretch are kept
abbrev pub IsRunKept : DistinctSources → LeftStretch → Run → Type 0
IsRunKept kept stretch run = run.process ≡ stretch.process → (k : ℕ) → Contains run.places k → stretch.first ≤ k → k ≤ stretch.last → Contains kept.operations.items (at_number run.process k)

-- n is at one of these places of the process, and in the stretch
abbrev pub IsOfPlaces : LeftStretch → ℕ → List ℕ → OperationPlace → Type 0
IsOfPlaces stretch process places n = (k : ℕ) × Contains places k × (n ≡ at_number process k) × (stretch.first ≤ k) × (k ≤ stretch.last)

-- n is of one of the runs, and in the stretch
abbrev pub IsOfRuns : LeftStretch → List Run → OperationPlace → Type 0
IsOfRuns stretch runs n = (run : Run) × Contains runs run × (run.process ≡ stretch.process) × IsOfPlaces stretch run.process run.places n

-- n is a writer of the location in one of the stretches
abbrev pub IsOfStretches : TraceWriters → List ℕ → List LeftStretch → OperationPlace → Type 0
IsOfStretches writers location stretches n = (x : LeftStretch) × Contains stretches x × IsOfRuns x (runs_at writers location x.value) n

-- so are those of all runs of the stretch
abbrev pub IsStretchKept : TraceWriters → List ℕ → DistinctSources → LeftStretch → Type 0
IsStretchKept writers location kept stretch = All (IsRunKept kept stretch) (runs_at writers location stretch.value)
