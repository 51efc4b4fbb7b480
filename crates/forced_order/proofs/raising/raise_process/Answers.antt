use Rattle.std.proofs.Common.{◌≡◌, ◌≤◌, ◌<◌, ◌+◌, ℕ, length, below_more, arith}
use Rattle.std.specs.Prelude.{Some}
use Rattle.std.specs.List.{slice_get}
use Rattle.trace_semantics.specs.declared.trace.Process.{Process}
use Rattle.trace_semantics.specs.Trace.{TraceValue}
use Rattle.forced_order.specs.declared.numbered.OperationNumber.{OperationNumber}
use Rattle.forced_order.specs.Closed.{IsClosedStep, AreStepsClosed}
use Rattle.forced_order.proofs.RiseLemmas.{no_pass, pass_joined, pass_as}
use Rattle.forced_order.proofs.raising.raise_process.Goals as goal

pub loop-place-init : goal.loop-place-init
loop-place-init c = no_pass c.args.trace.now c.args.rows.now (λ order. (p : Process) → slice_get c.args.trace.now.processes c.args.process ≡ Some p → AreStepsClosed order c.args.process 1) (λ p at k low less. absurd (omega (arith, low, less)))

pub loop-place-preserved : goal.loop-place-preserved
loop-place-preserved c =
    let t : TraceValue = c.args.trace.now in
    let q = c.args.process in
    let place = c.loop-place.place in
    let n : OperationNumber = record { process = q; place = place } in
    let next : OperationNumber = record { process = q; place = place + 1 } in
    pass_joined t c.either-rose.result c.loop-place.rose c.raise_next-more.result c.args.rows.now c.loop-place.rows c.raise_next-more.new.rows
    (λ order. (p : Process) → slice_get t.processes q ≡ Some p → AreStepsClosed order q place)
    (λ order. (p : Process) → slice_get t.processes q ≡ Some p → 1 ≤ place → place < length p.operations → IsClosedStep order n next)
    (λ order. (p : Process) → slice_get t.processes q ≡ Some p → AreStepsClosed order q (place + 1))
    c.either-rose.ensures
    (λ u v p at k low less. below_more (λ (i : ℕ). 1 ≤ i → IsClosedStep c.raise_next-more.new.rows (record { process = q; place = i }) (record { process = q; place = i + 1 })) place
    (λ i under least. u p at i least under) (λ least. v p at least (let count = c.count_of-count.ensures.count p at in omega (arith, count))) k less low)
    c.loop-place.invariant c.raise_next-more.ensures

pub returns : goal.returns
returns c =
    let t : TraceValue = c.args.trace.now in
    let q = c.args.process in
    pass_as t c.loop-place.rose c.args.rows.now c.loop-place.rows
    (λ order. (p : Process) → slice_get t.processes q ≡ Some p → AreStepsClosed order q c.loop-place.place)
    (λ order. (p : Process) → slice_get t.processes q ≡ Some p → AreStepsClosed order q (length p.operations))
    (λ u p at k low less. u p at k low (let count = c.count_of-count.ensures.count p at in omega (arith, count, less))) c.loop-place.invariant
