use Rattle.std.proofs.Common.{◌≡◌, ◌<◌, ◌≤◌, length, get_or, refl, ap, sym, ◌∙◌, arith}
use Rattle.trace_semantics.specs.declared.trace.Process.{Process}
use Rattle.trace_semantics.proofs.NameLemmas.{same_bytes}
use Rattle.writer_table.specs.declared.operation_place.OperationPlace.{OperationPlace}
use Rattle.reason_clauses.proofs.PairLemmas.{is_name_of}
use Rattle.reason_text.proofs.WordLemmas.{is_known}
use Rattle.reason_text.proofs.operation_table.operation_at.Goals as goal

pub returns-clause-there : goal.returns-clause-there
returns-clause-there c =
    let t = c.args.trace.now in
    let p = c.index-processes-q.result in
    let n : OperationPlace = record { process = c.args.number; place = c.args.place } in
    let low : c.args.number < length t.processes = (let long = ap length c.processes-processes.ensures in let past = c.if-q-processes.false in omega (arith, long, past)) in
    let at : get_or t.processes c.args.number p ≡ p = ap (λ l. get_or l c.args.number p) (sym c.processes-processes.ensures) ∙ sym c.index-processes-q.is in
    let called : p.name ≡ c.args.process.now = same_bytes p.name c.args.process.now (sym c.is_called.ensures ∙ c.if-not-is_called.false) in
    let q = c.index-processes-q-2.result in
    let there : get_or t.processes c.args.number q ≡ q = ap (λ l. get_or l c.args.number q) (sym c.processes-processes.ensures) ∙ sym c.index-processes-q-2.is in
    let same : c.as_slice-count.result.now ≡ q.operations = c.as_slice-count.ensures ∙ ap (λ (x : Process). x.operations) (sym c.index-processes-q-2.is) in
    let some : 1 ≤ c.args.place = (let none = c.if-place-eq0.false in omega (arith, none)) in
    let most : c.args.place ≤ length q.operations = (let long = ap length same in let past = c.if-place-count.false in omega (arith, long, past)) in
    (is_name_of t n p (record { process = c.args.process.now; place = c.args.place }) low at called refl, is_known t c.recall_invariant.ensures n q low there some most)
