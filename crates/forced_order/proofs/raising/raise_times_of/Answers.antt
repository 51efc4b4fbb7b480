use Rattle.std.proofs.Common.{◌≡◌, ◌+◌, ℕ, length, below_more, arith}
use Rattle.std.specs.Prelude.{Some}
use Rattle.std.specs.List.{slice_get}
use Rattle.trace_semantics.specs.declared.trace.Process.{Process}
use Rattle.trace_semantics.specs.Trace.{TraceValue}
use Rattle.forced_order.specs.Closed.{AreEndedClosed, IsTimeClosed}
use Rattle.forced_order.proofs.RiseLemmas.{no_pass, pass_joined, pass_as}
use Rattle.forced_order.proofs.raising.raise_times_of.Goals as goal

pub loop-k-init : goal.loop-k-init
loop-k-init c =
    no_pass c.args.trace.now c.args.rows.now (λ order. (p : Process) → slice_get c.args.trace.now.processes c.args.process ≡ Some p → AreEndedClosed c.args.trace.now.processes order c.args.process 0)
    (λ p at k less. absurd (omega (arith, less)))

pub loop-k-preserved : goal.loop-k-preserved
loop-k-preserved c =
    let t : TraceValue = c.args.trace.now in
    let q = c.args.process in
    let k = c.loop-k.k in
    pass_joined t c.either-rose.result c.loop-k.rose c.raise_timed-more.result c.args.rows.now c.loop-k.rows c.raise_timed-more.new.rows
    (λ order. (p : Process) → slice_get t.processes q ≡ Some p → AreEndedClosed t.processes order q k)
    (λ order. IsTimeClosed t.processes order (record { process = q; place = k + 1 }))
    (λ order. (p : Process) → slice_get t.processes q ≡ Some p → AreEndedClosed t.processes order q (k + 1))
    c.either-rose.ensures
    (λ u v p at j less. below_more (λ (i : ℕ). IsTimeClosed t.processes c.raise_timed-more.new.rows (record { process = q; place = i + 1 })) k (λ i under. u p at i under) v j less)
    c.loop-k.invariant c.raise_timed-more.ensures

pub returns : goal.returns
returns c =
    let t : TraceValue = c.args.trace.now in
    let q = c.args.process in
    pass_as t c.loop-k.rose c.args.rows.now c.loop-k.rows
    (λ order. (p : Process) → slice_get t.processes q ≡ Some p → AreEndedClosed t.processes order q c.loop-k.k)
    (λ order. (p : Process) → slice_get t.processes q ≡ Some p → AreEndedClosed t.processes order q (length p.operations))
    (λ u p at j less. u p at j (let count = c.count_of-count.ensures.count p at in omega (arith, count, less, c.loop-k-test.false))) c.loop-k.invariant
