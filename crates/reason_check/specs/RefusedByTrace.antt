-- Why a line of a certificate that was read is refused: what is wrong with what it says of the trace.
use Rattle.std.specs.Prelude.{◌≡◌, ◌⊎◌, ℕ, List}
use Rattle.order_clauses.specs.Turned.{turned}
use Rattle.order_clauses.specs.Unmade.{AreAlwaysTrue, AreFull}
use Rattle.order_clauses.specs.declared.order_pair.OrderPair.{OrderPair}
use Rattle.reason_clauses.specs.AddedOrders.{IsOpen, IsOrder}
use Rattle.reason_clauses.specs.CycleRefused.{IsCycleRefused, IsTurnedStep}
use Rattle.reason_clauses.specs.EndedRefused.{IsEndedRefused}
use Rattle.reason_clauses.specs.LastRefused.{IsLastOrder, IsLastRefused}
use Rattle.reason_clauses.specs.PairRefused.{IsPairRefused}
use Rattle.reason_clauses.specs.SourceRefused.{IsSourceOrder, IsSourceRefused}
use Rattle.reason_clauses.specs.declared.cause.ReasonCause.{ReasonCause}
use Rattle.reason_clauses.specs.declared.cause.ReasonCause.TheVariants.{AlwaysTrue, EnoughSources, OneProcess, SecondPiece, TooManyVariables}
use Rattle.reason_clauses.specs.declared.pieces.SourcePieces.{SourcePieces}
use Rattle.reason_counting.specs.CountingRefused.{IsCountingOrder, IsCountingRefused}
use Rattle.reason_counting.specs.Counts.{AreEnough}
use Rattle.reason_counting.specs.WaitingRefused.{IsWaitingOrder, IsWaitingRefused}
use Rattle.reason_counting.specs.declared.counted_members.CountedMember.{CountedMember}
use Rattle.reason_counting.specs.declared.waiting.Waiter.{Waiter}
use Rattle.reason_check.specs.Gathered.{AreGathered, HasSecond, IsLateRefused}
use Rattle.reason_check.specs.Members.{AreMembers, AreMembersRefused, AreWaiters, AreWaitersRefused}
use Rattle.reason_text.specs.declared.member_part.MemberPart.{MemberPart}
use Rattle.reason_text.specs.declared.reason_line.ReasonLine.{ReasonLine}
use Rattle.reason_text.specs.declared.reason_line.ReasonLine.TheVariants.{Skipped, Cycle, Before, Ended, Variable, Source, Last, TooFew, Counting, Waiting, Derivation}
use Rattle.reason_text.specs.declared.source_piece.SourcePiece.{SourcePiece}
use Rattle.trace_semantics.specs.Trace.{TraceValue}
use Rattle.writer_table.specs.declared.operation_place.OperationPlace.{OperationPlace}

-- one of the orders that are asked for, which program order does not deny, always stands, or its opposite is asked for too
abbrev pub HasAlwaysTrue : (OrderPair → Type 0) → Type 0
HasAlwaysTrue IsAsked = (o : OrderPair) × IsAsked o × IsOpen o × ((o.first.process ≡ o.second.process) ⊎ (IsAsked (turned o) × IsOpen (turned o)))

-- the orders that are asked for make no clause: one of two of them always stands, or there are too many variables
abbrev pub IsNoClause : (OrderPair → Type 0) → ReasonCause → Type 0
IsNoClause IsAsked cause = (HasAlwaysTrue IsAsked × (cause ≡ AlwaysTrue)) ⊎ (cause ≡ TooManyVariables)

-- these orders made none: one of two of them always stands, or as many pairs are numbered as can be
abbrev pub IsUnmade : List OrderPair → List OrderPair → ReasonCause → Type 0
IsUnmade orders variables cause = (AreAlwaysTrue orders × (cause ≡ AlwaysTrue)) ⊎ (AreFull variables × (cause ≡ TooManyVariables))

-- both operations are of one process, or no further pair can be numbered
abbrev pub IsNumberingRefused : OrderPair → ReasonCause → Type 0
IsNumberingRefused pair cause = ((pair.first.process ≡ pair.second.process) × (cause ≡ OneProcess)) ⊎ (cause ≡ TooManyVariables)

-- the location has enough sources of the value
abbrev pub IsEnough : TraceValue → List ℕ → ℕ → ReasonCause → Type 0
IsEnough t location value cause = AreEnough t location value × (cause ≡ EnoughSources)

-- a line `s`: two of its pieces are of one kind, or what they take is refused, or makes no clause
abbrev pub IsSourceLineRefused : TraceValue → OperationPlace → List SourcePiece → ReasonCause → Type 0
IsSourceLineRefused t reader listed cause =
    (HasSecond listed × (cause ≡ SecondPiece)) ⊎ ((pieces : SourcePieces) × AreGathered listed pieces × (IsSourceRefused t reader pieces cause ⊎ IsNoClause (IsSourceOrder t reader pieces) cause))

-- a line `l`: its pieces are none of last writers, or two of one kind; or what they take is refused, or makes no clause
abbrev pub IsLastLineRefused : TraceValue → List ℕ → List SourcePiece → ReasonCause → Type 0
IsLastLineRefused t location listed cause =
    IsLateRefused listed cause ⊎ ((pieces : SourcePieces) × AreGathered listed pieces × (IsLastRefused t location pieces cause ⊎ IsNoClause (IsLastOrder t location pieces) cause))

-- a line `n`: its parts are none of members, or the members are refused, or make no clause
abbrev pub IsCountingLineRefused : TraceValue → List MemberPart → ReasonCause → Type 0
IsCountingLineRefused t parts cause =
    AreMembersRefused parts cause ⊎ ((members : List CountedMember) × AreMembers parts members × (IsCountingRefused t members cause ⊎ IsNoClause (IsCountingOrder t members) cause))

-- a line `w`: its parts are none of operations that wait, or these are refused, or make no clause
abbrev pub IsWaitingLineRefused : TraceValue → List MemberPart → ReasonCause → Type 0
IsWaitingLineRefused t parts cause =
    AreWaitersRefused parts cause ⊎ ((waiters : List Waiter) × AreWaiters parts waiters × (IsWaitingRefused t waiters cause ⊎ IsNoClause (IsWaitingOrder t waiters) cause))

-- The cause is one of the line, by what the trace says, or as its orders make no clause. Comments and `p` are not refused.
abbrev pub IsRefusedByTrace : TraceValue → ReasonLine → ReasonCause → Type 0
IsRefusedByTrace t (Cycle operations) cause = IsCycleRefused t operations.items cause ⊎ IsNoClause (IsTurnedStep operations.items) cause
IsRefusedByTrace t (Before pair) cause = IsPairRefused t pair cause ⊎ IsNoClause (IsOrder pair.first pair.second) cause
IsRefusedByTrace t (Ended pair) cause = IsEndedRefused t pair cause ⊎ IsNoClause (IsOrder pair.first pair.second) cause
IsRefusedByTrace t (Variable pair) cause = IsNumberingRefused pair cause
IsRefusedByTrace t (TooFew location value) cause = IsEnough t location.now value cause
IsRefusedByTrace t (Source reader pieces) cause = IsSourceLineRefused t reader pieces.items cause
IsRefusedByTrace t (Last location pieces) cause = IsLastLineRefused t location.now pieces.items cause
IsRefusedByTrace t (Counting parts) cause = IsCountingLineRefused t parts.items cause
IsRefusedByTrace t (Waiting parts) cause = IsWaitingLineRefused t parts.items cause
IsRefusedByTrace t Skipped cause = ⊥
IsRefusedByTrace t Derivation cause = ⊥
