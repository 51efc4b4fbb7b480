-- Why lines that were read are refused.
use Rattle.std.proofs.Common.{◌≡◌, ◌⊎◌, ℕ, List, [], ap, inl, inr, subst}
use Rattle.std.specs.List.{Contains}
use Rattle.std.specs.Prelude.{Result, Ok, Err, IfErr}
use Rattle.text_lines.specs.declared.plain_fault.PlainFault.{PlainFault}
use Rattle.text_lines.specs.declared.plain_fault.PlainFault.TheVariants.{OutOfMemory, For}
use Rattle.trace_semantics.specs.Trace.{TraceValue}
use Rattle.trace_semantics.proofs.ElementLemmas.{none_in}
use Rattle.order_clauses.specs.Turned.{turned}
use Rattle.order_clauses.specs.Unmade.{AreAlwaysTrue}
use Rattle.order_clauses.specs.declared.order_pair.OrderPair.{OrderPair}
use Rattle.reason_clauses.specs.AddedOrders.{AddsOnly, IsOpen}
use Rattle.reason_clauses.specs.RefusedBy.{IsRefusedBy}
use Rattle.reason_clauses.specs.declared.cause.ReasonCause.{ReasonCause}
use Rattle.reason_clauses.specs.declared.cause.ReasonCause.TheVariants.{EnoughSources}
use Rattle.reason_counting.specs.Counts.{AreEnough}
use Rattle.reason_check.specs.RefusedByTrace.{HasAlwaysTrue, IsEnough, IsNoClause, IsUnmade}
use Rattle.reason_check.specs.declared.line_clause.LineOutcome.{LineOutcome}

-- the cause of a refusal
abbrev cause_of : PlainFault ReasonCause → ReasonCause
cause_of OutOfMemory = EnoughSources
cause_of (For cause) = cause

module _ (IsAsked : OrderPair → Type 0) (orders : List OrderPair) (only : AddsOnly [] orders IsAsked) where
  asked_open : (o : OrderPair) → Contains orders o → IsAsked o × IsOpen o
  asked_open o c =
      elim (only o c) [
        | inl none ↦ absurd (none_in o none)
        | inr asked ↦ asked
      ]

  -- orders of which one always stands were asked for
  always_asked : AreAlwaysTrue orders → HasAlwaysTrue IsAsked
  always_asked (o, c, inl same) = (let asked = asked_open o c in (o, asked.0, asked.1, inl same))
  always_asked (o, c, inr other) = (let asked = asked_open o c in let opposite = asked_open (turned o) other in (o, asked.0, asked.1, inr (opposite.0, opposite.1)))

  no_clause : (variables : List OrderPair) (cause : ReasonCause) → IsUnmade orders variables cause → IsNoClause IsAsked cause
  no_clause variables cause (inl (always, e)) = inl (always_asked always, e)
  no_clause variables cause (inr (full, e)) = inr e

  -- a line is refused for what came of its orders
  pub unmade_line : (P : ReasonCause → Type 0) (variables : List OrderPair) (r : Result LineOutcome (PlainFault ReasonCause)) → IfErr r (IsRefusedBy (IsUnmade orders variables)) → IfErr r (IsRefusedBy (λ cause. P cause ⊎ IsNoClause IsAsked cause))
  unmade_line P variables (Ok outcome) h = tt
  unmade_line P variables (Err OutOfMemory) h = tt
  unmade_line P variables (Err (For cause)) h = inr (no_clause variables cause h)

-- no line is refused for no cause
pub never_refused : (P : ReasonCause → Type 0) (r : Result LineOutcome (PlainFault ReasonCause)) → IfErr r (IsRefusedBy (λ cause. ⊥)) → IfErr r (IsRefusedBy P)
never_refused P (Ok outcome) h = tt
never_refused P (Err OutOfMemory) h = tt
never_refused P (Err (For cause)) h = absurd h

-- orders that were added to none
pub from_none : (IsAsked : OrderPair → Type 0) (old new : List OrderPair) → old ≡ [] → AddsOnly old new IsAsked → AddsOnly [] new IsAsked
from_none IsAsked old new e only = subst (λ (l : List OrderPair). AddsOnly l new IsAsked) e only

-- what was gathered is refused, or makes no clause
pub with_gathered : {G : Type 0} (Are : G → Type 0) (Front Is : ReasonCause → Type 0) (Refused NoneOf : G → ReasonCause → Type 0) → ((cause : ReasonCause) → Front cause ⊎ ((g : G) × Are g × (Refused g cause ⊎ NoneOf g cause)) → Is cause) →
    (g : G) → Are g → (r : Result LineOutcome (PlainFault ReasonCause)) → IfErr r (IsRefusedBy (λ cause. Refused g cause ⊎ NoneOf g cause)) → IfErr r (IsRefusedBy Is)
with_gathered Are Front Is Refused NoneOf is g so (Ok outcome) h = tt
with_gathered Are Front Is Refused NoneOf is g so (Err OutOfMemory) h = tt
with_gathered Are Front Is Refused NoneOf is g so (Err (For cause)) h = is cause (inr (g, so, h))

-- the refusal of enough sources
pub enough_refused : (t : TraceValue) (location : List ℕ) (value : ℕ) (refusal : PlainFault ReasonCause) → (refusal ≡ For EnoughSources) × AreEnough t location value → IsRefusedBy (IsEnough t location value) refusal
enough_refused t location value OutOfMemory h = tt
enough_refused t location value (For cause) (e, enough) = (enough, ap cause_of e)
