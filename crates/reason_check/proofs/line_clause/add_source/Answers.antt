use Rattle.std.proofs.Common.{◌≡◌, ◌⊎◌, List, [], inl, inr, subst, sym}
use Rattle.trace_semantics.specs.declared.operation.OpName.{OpName}
use Rattle.order_clauses.specs.Numbered.{named}
use Rattle.order_clauses.specs.declared.order_pair.OrderPair.{OrderPair}
use Rattle.order_reasons.specs.Sources.{IsSourceClause}
use Rattle.reason_clauses.specs.AddedOrders.{AddsOnly}
use Rattle.reason_clauses.specs.Made.{Makes}
use Rattle.reason_clauses.specs.SourceRefused.{IsSourceOrder, IsSourceRefused}
use Rattle.reason_clauses.specs.declared.cause.ReasonCause.TheVariants.{SecondPiece}
use Rattle.reason_clauses.proofs.RefusedLemmas.{refusal_on}
use Rattle.reason_check.specs.Gathered.{AreGathered, HasSecond}
use Rattle.reason_check.specs.RefusedByTrace.{IsNoClause, IsSourceLineRefused}
use Rattle.reason_check.proofs.LineLemmas.{next_if_made}
use Rattle.reason_check.proofs.OutcomeLemmas.{from_none, unmade_line, with_gathered}
use Rattle.reason_check.proofs.line_clause.add_source.Goals as goal

pub returns-clause-made : goal.returns-clause-made
returns-clause-made c =
    let t = c.args.trace.now in
    let Is = λ (clause : List (OpName × OpName)). IsSourceClause t clause (named t c.args.reader) in
    next_if_made t Is c.args.list.now c.add_orders.new.list c.as_slice.result.now
    (subst (λ (l : List OrderPair). Makes t l Is) (sym c.as_slice.ensures.value) c.in_ok-source_clause.ensures.made) c.add_orders.result c.add_orders.ensures.appended c.add_orders.ensures.outcome

pub returns-clause-refused : goal.returns-clause-refused
returns-clause-refused c =
    let t = c.args.trace.now in
    let r = c.args.reader in
    let gathered = c.in_ok-gathered.gathered in
    let asked = IsSourceOrder t r gathered in
    with_gathered (AreGathered c.args.pieces.now) (λ cause. HasSecond c.args.pieces.now × (cause ≡ SecondPiece)) (IsSourceLineRefused t r c.args.pieces.now) (IsSourceRefused t r) (λ p. IsNoClause (IsSourceOrder t r p)) (λ cause h. h) gathered c.in_ok-gathered.ensures.gathered c.add_orders.result
    (unmade_line asked c.as_slice.result.now (subst (λ (l : List OrderPair). AddsOnly [] l asked) (sym c.as_slice.ensures.value) (from_none asked c.new-orders.result.items c.source_clause.new.orders.items c.new-orders.ensures.items c.in_ok-source_clause.ensures.only))
    (IsSourceRefused t r gathered) c.add_orders.new.list.variables c.add_orders.result c.add_orders.ensures.refused)

pub returns-in_err-gathered-clause-refused : goal.returns-in_err-gathered-clause-refused
returns-in_err-gathered-clause-refused c =
    refusal_on (λ cause. HasSecond c.args.pieces.now × (cause ≡ SecondPiece)) (IsSourceLineRefused c.args.trace.now c.args.reader c.args.pieces.now) c.from_residual.result c.in_err-gathered.field-0.0 c.from_residual.ensures.1 (λ cause h. inl h) c.in_err-gathered.ensures.refused

pub returns-in_err-source_clause-clause-refused : goal.returns-in_err-source_clause-clause-refused
returns-in_err-source_clause-clause-refused c =
    refusal_on (IsSourceRefused c.args.trace.now c.args.reader c.in_ok-gathered.gathered) (IsSourceLineRefused c.args.trace.now c.args.reader c.args.pieces.now) c.from_residual-in_err-source_clause.result c.in_err-source_clause.field-0.0 c.from_residual-in_err-source_clause.ensures.1
    (λ cause h. inr (c.in_ok-gathered.gathered, c.in_ok-gathered.ensures.gathered, inl h)) c.in_err-source_clause.ensures.refused
