use Rattle.std.proofs.Common.{◌≡◌, ◌<◌, ℕ, List, length, get_or, cond, ap, sym, ◌∙◌, arith}
use Rattle.std.specs.Prelude.{Some}
use Rattle.std.specs.Str.{bytes_eq}
use Rattle.trace_semantics.specs.declared.trace.Process.{Process}
use Rattle.trace_semantics.specs.NameNumbers.{number_of}
use Rattle.reason_text.proofs.FaultLemmas.{numbered_next}
use Rattle.reason_text.proofs.operation_table.number_processes.Goals as goal

pub loop-q-init : goal.loop-q-init
loop-q-init c = λ q p less at. absurd (omega (arith, less))

pub loop-q-preserved : goal.loop-q-preserved
loop-q-preserved c =
    let t = c.args.trace.now in
    let q = c.loop-q.q in
    let p = c.index-processes-q.result in
    let low : q < length t.processes = (let long = ap length c.processes-processes.ensures in let less = c.loop-q-test.true in omega (arith, long, less)) in
    let at : get_or t.processes q p ≡ p = ap (λ l. get_or l q p) (sym c.processes-processes.ensures) ∙ sym c.index-processes-q.is in
    numbered_next t c.recall_invariant.ensures c.loop-q.numbers c.insert.new.self q p low at c.loop-q.invariant
    (λ name. c.in_ok-insert.ensures name ∙ ap (λ (w : List ℕ). cond (bytes_eq w name) (Some q) (number_of c.loop-q.numbers name)) (c.as_bytes.ensures ∙ ap (λ (x : Process). x.name) (sym c.index-processes-q.is)))
