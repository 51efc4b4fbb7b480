use Rattle.std.proofs.Common.{◌≡◌, ◌<◌, ◌+◌, ℕ, length, ap, below_more, arith}
use Rattle.std.specs.Prelude.{Some}
use Rattle.std.specs.List.{slice_get}
use Rattle.std.proofs.lemmas.Option.{slice_get_within}
use Rattle.trace_semantics.specs.declared.trace.Process.{Process}
use Rattle.trace_semantics.specs.Trace.{TraceValue}
use Rattle.forced_order.specs.Closed.{AreProcessesClosed, AreStepsClosed}
use Rattle.forced_order.proofs.RiseLemmas.{no_pass, pass_joined, pass_as}
use Rattle.forced_order.proofs.raising.raise_processes.Goals as goal

pub loop-k-init : goal.loop-k-init
loop-k-init c = no_pass c.args.trace.now c.args.rows.now (λ order. (j : ℕ) (p : Process) → j < 0 → slice_get c.args.trace.now.processes j ≡ Some p → AreStepsClosed order j (length p.operations)) (λ j p less. absurd (omega (arith, less)))

pub loop-k-preserved : goal.loop-k-preserved
loop-k-preserved c =
    let t : TraceValue = c.args.trace.now in
    let n = c.loop-k.k in
    pass_joined t c.either-rose.result c.loop-k.rose c.raise_process-more.result c.args.rows.now c.loop-k.rows c.raise_process-more.new.rows
    (λ order. (j : ℕ) (p : Process) → j < n → slice_get t.processes j ≡ Some p → AreStepsClosed order j (length p.operations))
    (λ order. (p : Process) → slice_get t.processes n ≡ Some p → AreStepsClosed order n (length p.operations))
    (λ order. (j : ℕ) (p : Process) → j < n + 1 → slice_get t.processes j ≡ Some p → AreStepsClosed order j (length p.operations))
    c.either-rose.ensures
    (λ u v j p less. below_more (λ (i : ℕ). slice_get t.processes i ≡ Some p → AreStepsClosed c.raise_process-more.new.rows i (length p.operations)) n (λ i under. u i p under) (v p) j less)
    c.loop-k.invariant c.raise_process-more.ensures

pub returns : goal.returns
returns c =
    let t : TraceValue = c.args.trace.now in
    let long = ap length c.processes-k-end.ensures in
    pass_as t c.loop-k.rose c.args.rows.now c.loop-k.rows
    (λ order. (j : ℕ) (p : Process) → j < c.loop-k.k → slice_get t.processes j ≡ Some p → AreStepsClosed order j (length p.operations))
    (AreProcessesClosed t.processes)
    (λ u j p at. u j p (let within = slice_get_within t.processes j p at in omega (arith, within, long)) at) c.loop-k.invariant
