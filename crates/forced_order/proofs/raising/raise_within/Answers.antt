use Rattle.std.proofs.Common.{◌<◌, ◌+◌, ℕ, below_more, arith}
use Rattle.trace_semantics.specs.Trace.{TraceValue}
use Rattle.forced_order.specs.Closed.{IsClosedAfter, IsTimeClosed}
use Rattle.forced_order.proofs.RiseLemmas.{no_pass, pass_joined, pass_as}
use Rattle.forced_order.proofs.TimeLemmas.{no_process_closed}
use Rattle.forced_order.proofs.raising.raise_within.Goals as goal

pub loop-process-init : goal.loop-process-init
loop-process-init c = no_pass c.args.trace.now c.args.rows.now (λ order. (q : ℕ) → q < 0 → IsClosedAfter c.args.trace.now.processes order q c.args.n) (λ q less. absurd (omega (arith, less)))

pub loop-process-preserved : goal.loop-process-preserved
loop-process-preserved c =
    let t : TraceValue = c.args.trace.now in
    let k = c.loop-process.process in
    pass_joined t c.either-rose.result c.loop-process.rose c.raise_after-more.result c.args.rows.now c.loop-process.rows c.raise_after-more.new.rows
    (λ order. (q : ℕ) → q < k → IsClosedAfter t.processes order q c.args.n)
    (λ order. IsClosedAfter t.processes order k c.args.n)
    (λ order. (q : ℕ) → q < k + 1 → IsClosedAfter t.processes order q c.args.n)
    c.either-rose.ensures
    (λ u v q less. below_more (λ (i : ℕ). IsClosedAfter t.processes c.raise_after-more.new.rows i c.args.n) k (λ i under. u i under) v q less)
    c.loop-process.invariant c.raise_after-more.ensures

pub returns : goal.returns
returns c =
    let t : TraceValue = c.args.trace.now in
    let long = c.requires.ends.long in
    pass_as t c.loop-process.rose c.args.rows.now c.loop-process.rows
    (λ order. (q : ℕ) → q < c.loop-process.process → IsClosedAfter t.processes order q c.args.n)
    (λ order. IsTimeClosed t.processes order c.args.n)
    (λ u q. no_process_closed t.processes c.loop-process.rows c.args.n c.loop-process.process q (omega (arith, long, c.loop-process-test.false)) (u q))
    c.loop-process.invariant
