-- The clauses that lines of a certificate of reasons make of a trace.
use Rattle.std.specs.Prelude.{◌≡◌, Bool, true, false, not, ℤ, List, [], map}
use Rattle.std.specs.List.{filter, AllZip}
use Rattle.order_clauses.specs.Numbered.{named}
use Rattle.order_clauses.specs.ReasonList.{named_pairs}
use Rattle.order_clauses.specs.declared.order_pair.OrderPair.{OrderPair}
use Rattle.order_reasons.specs.Counting.{NeedsSource, IsCountingClause}
use Rattle.order_reasons.specs.Orders.{orders_said}
use Rattle.order_reasons.specs.Reasons.{IsPairClause, IsTimesClause}
use Rattle.order_reasons.specs.Sources.{ValueSource, IsSourceClause}
use Rattle.order_reasons.specs.Waiting.{IsWaitingClause}
use Rattle.reason_clauses.specs.Made.{IsCycleOf, IsLastOf}
use Rattle.reason_counting.specs.Counts.{AreTooFew}
use Rattle.reason_text.specs.declared.reason_line.ReasonLine.{ReasonLine}
use Rattle.reason_text.specs.declared.reason_line.ReasonLine.TheVariants.{Skipped, Cycle, Before, Ended, Variable, Source, Last, TooFew, Counting, Waiting, Derivation}
use Rattle.trace_semantics.specs.declared.operation.OpName.{OpName}
use Rattle.trace_semantics.specs.Trace.{TraceValue}

-- updates and ends of locations are more than the sources that the clause does not bar
abbrev pub IsCountingOf : TraceValue → List (OpName × OpName) → Type 0
IsCountingOf t clause = (members : List NeedsSource) × (left : List ValueSource) × IsCountingClause t clause members left

-- each of some operations waits for one of them
abbrev pub IsWaitingOf : TraceValue → List (OpName × OpName) → Type 0
IsWaitingOf t clause = (members : List OpName) × IsWaitingClause t clause members

-- The clause, a list of orders, follows from the trace by what the line names: a cycle, of which each step is turned round; a before pair of
-- the trace; two operations of which one had ended before the other began; a reading operation, of which each possible source is barred; a
-- location, of which each possible last writer is; a location and a value with too few sources, where no order is left; updates and ends of
-- locations that are more than the sources that are not barred; or operations that wait for one another. Other lines make no clause.
abbrev pub IsClauseOfLine : TraceValue → ReasonLine → List (OpName × OpName) → Type 0
IsClauseOfLine t (Cycle operations) clause = IsCycleOf t (map (named t) operations.items) clause
IsClauseOfLine t (Before pair) clause = IsPairClause t clause (named t pair.first) (named t pair.second)
IsClauseOfLine t (Ended pair) clause = IsTimesClause t clause (named t pair.first) (named t pair.second)
IsClauseOfLine t (Source reader pieces) clause = IsSourceClause t clause (named t reader)
IsClauseOfLine t (Last location pieces) clause = IsLastOf t location.now clause
IsClauseOfLine t (TooFew location value) clause = (clause ≡ []) × AreTooFew t location.now value
IsClauseOfLine t (Counting parts) clause = IsCountingOf t clause
IsClauseOfLine t (Waiting parts) clause = IsWaitingOf t clause
IsClauseOfLine t Skipped clause = ⊥
IsClauseOfLine t (Variable pair) clause = ⊥
IsClauseOfLine t Derivation clause = ⊥

-- whether the line may stand among the others and make no clause: a comment, or a pair that gets a number
abbrev pub is_silent : ReasonLine → Bool
is_silent Skipped = true
is_silent (Variable pair) = true
is_silent line = false

-- where each variable stands for a pair of operations, each line but the silent ones makes one of the clauses, in their order
abbrev pub MakeClauses : TraceValue → List OrderPair → List ReasonLine → List (List ℤ) → Type 0
MakeClauses t variables lines clauses =
    AllZip (λ line literals. IsClauseOfLine t line (orders_said (named_pairs t variables) literals)) (filter (λ line. not (is_silent line)) lines) clauses
