use Rattle.std.proofs.Common.{◌≡◌, ◌<◌, true, sym, ◌∙◌, subst, arith}
use Rattle.std.specs.Prelude.{nat_le}
use Rattle.trace_semantics.specs.Trace.{TraceValue}
use Rattle.forced_order.specs.declared.numbered.OperationNumber.{OperationNumber}
use Rattle.forced_order.specs.Closed.{IsClosedAfter, IsClosedStep}
use Rattle.forced_order.specs.Forced.{IsForcedByNumber}
use Rattle.forced_order.proofs.RiseLemmas.{no_pass}
use Rattle.forced_order.proofs.TimeLemmas.{has_span, ends_here, timed_forced, none_to_close, last_ended, closed_after, place_fits}
use Rattle.forced_order.proofs.raising.raise_after.Goals as goal

pub operation_of-last-requires : goal.operation_of-last-requires
operation_of-last-requires c =
    let t : TraceValue = c.args.trace.now in
    let long = c.requires.ends.long in
    let own = ends_here t.processes c.args.ends.now c.args.process c.index-ends-process.result c.requires.ends c.requires.within c.index-ends-process.is in
    let most = place_fits t c.requires.trace c.args.process own.0 own.1 c.last_ended-place.result c.args.span (c.last_ended-place.ensures own.0.operations own.2) in
    record { process = omega (arith, c.requires.within, long, c.requires.trace.few_processes); place = omega (arith, most) }

pub returns-then-is_place : goal.returns-then-is_place
returns-then-is_place c =
    let t : TraceValue = c.args.trace.now in
    let q = c.args.process in
    let n : OperationNumber = c.args.n in
    let place = c.last_ended-place.result in
    let own = ends_here t.processes c.args.ends.now q c.index-ends-process.result c.requires.ends c.requires.within c.index-ends-process.is in
    let last = c.last_ended-place.ensures own.0.operations own.2 in
    let some : nat_le 1 place ≡ true = sym c.is_place.ensures ∙ c.if-is_place.true in
    let m : OperationNumber = record { process = q; place = place } in
    let same : c.operation_of-last.result ≡ m = c.operation_of-last.ensures in
    let second = has_span t.processes n c.args.span c.requires.span in
    let long = c.requires.ends.long in
    let few : q < 64 = omega (arith, c.requires.within, long, c.requires.trace.few_processes) in
    let few_here : c.operation_of-last.result.process < 64 = subst (λ (x : OperationNumber). x.process < 64) (sym same) few in
    let forced : IsForcedByNumber t m n = timed_forced t c.requires.trace m n (last_ended t.processes q own.0 own.1 n c.args.span c.requires.span place last some) in
    record {
      forced = λ given. c.raise_from.ensures.forced t (subst (λ (x : OperationNumber). IsForcedByNumber t x n) (sym same) forced) given;
      rise = c.raise_from.ensures.rise;
      closed = λ e rows. closed_after t.processes q own.0 own.1 n c.args.span c.requires.span place last c.raise_from.new.self some
          (subst (λ (x : OperationNumber). IsClosedStep c.raise_from.new.self x n) same (c.raise_from.ensures.closed e (rows n.process n.place second.process second.at second.most) few_here));
    }

pub returns-else-is_place : goal.returns-else-is_place
returns-else-is_place c =
    let t : TraceValue = c.args.trace.now in
    let q = c.args.process in
    let own = ends_here t.processes c.args.ends.now q c.index-ends-process.result c.requires.ends c.requires.within c.index-ends-process.is in
    let last = c.last_ended-place.ensures own.0.operations own.2 in
    no_pass t c.args.rows.now (λ order. IsClosedAfter t.processes order q c.args.n)
    (none_to_close t.processes q own.0 own.1 c.args.n c.args.span c.requires.span c.last_ended-place.result last c.args.rows.now (sym c.is_place.ensures ∙ c.if-is_place.false))
