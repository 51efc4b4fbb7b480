use Rattle.std.proofs.Common.{ap, sym, ◌∙◌, inl}
use Rattle.trace_semantics.specs.Trace.{value_of}
use Rattle.trace_semantics.specs.Judgement.{is_held}
use Rattle.trace_semantics.proofs.CauseLemmas.{held_same}
use Rattle.reason_clauses.specs.AddedOrders.{IsOrder}
use Rattle.reason_clauses.specs.SourceRefused.{IsInitialOrder}
use Rattle.reason_clauses.proofs.AddedLemmas.{adds_over}
use Rattle.reason_counting.proofs.LeftLemmas.{start_left_by}
use Rattle.reason_counting.proofs.left_sources.bar_taken_start.Goals as goal

pub returns-clause-bars : goal.returns-clause-bars
returns-clause-bars c =
    start_left_by c.args.trace.now c.push_order.new.orders.items c.args.reader.now.operation c.in-Some.x c.args.reader.now.read.origin.now c.args.reader.now.pieces.now c.args.reader.now.read.location.now c.args.reader.now.read.value _ (sym c.initial-2.ensures ∙ c.in-Some.is) c.in_ok-push_order.ensures.says

pub returns-clause-only : goal.returns-clause-only
returns-clause-only c =
    let t = c.args.trace.now in
    let location = c.args.reader.now.read.location.now in
    let value = c.args.reader.now.read.value in
    let held = held_same (value_of t.initial location) value (ap (λ l. is_held (value_of l location) value) (sym c.initial.ensures) ∙ sym c.is_held_at.ensures ∙ c.if-not-is_held_at.false) in
    adds_over c.args.orders.now.items c.args.orders.now.items c.push_order.new.orders.items (IsOrder c.args.reader.now.operation c.in-Some.x) (IsInitialOrder t c.args.reader.now.operation c.args.reader.now.pieces.now c.args.reader.now.read.origin.now location value)
    (λ o h. (c.in-Some.x, (held, c.is_from_start.ensures.only c.if-not-is_from_start.false), inl (sym c.initial-2.ensures ∙ c.in-Some.is), h)) (λ o d. inl d) c.in_ok-push_order.ensures.only
