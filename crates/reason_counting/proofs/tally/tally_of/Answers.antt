use Rattle.std.proofs.Common.{◌≡◌, ◌<◌, List, take, length, get_or, ap, sym, ◌∙◌, arith, subst}
use Rattle.trace_semantics.specs.declared.operation.Op.{Op}
use Rattle.trace_semantics.specs.declared.trace.Process.{Process}
use Rattle.reason_counting.specs.Tallies.{IsTallyOf}
use Rattle.reason_counting.proofs.TallyLemmas.{operations_in, few_with_process, process_more}
use Rattle.reason_counting.proofs.tally.tally_of.Goals as goal

pub together-tally-requires : goal.together-tally-requires
together-tally-requires c =
    let t = c.args.trace.now in
    let q = c.loop-q.q in
    let p = c.index-processes-q.result in
    let low : q < length t.processes = (let long = ap length c.processes-processes.ensures in let less = c.loop-q-test.true in omega (arith, long, less)) in
    let at : get_or t.processes q p ≡ p = ap (λ l. get_or l q p) (sym c.processes-processes.ensures) ∙ sym c.index-processes-q.is in
    let same : c.as_slice-operations.result.now ≡ p.operations = c.as_slice-operations.ensures ∙ ap (λ (x : Process). x.operations) (sym c.index-processes-q.is) in
    let few = few_with_process t c.recall_invariant.ensures c.args.location.now c.args.value q p c.loop-q.tally c.tally_of_operations.result low at c.loop-q.invariant (subst (λ (l : List Op). IsTallyOf c.args.location.now c.args.value l c.tally_of_operations.result) same c.tally_of_operations.ensures) in
    record { wanting = omega (arith, few.0); leaving = omega (arith, few.1) }

pub loop-q-preserved : goal.loop-q-preserved
loop-q-preserved c =
    let t = c.args.trace.now in
    let q = c.loop-q.q in
    let p = c.index-processes-q.result in
    let low : q < length t.processes = (let long = ap length c.processes-processes.ensures in let less = c.loop-q-test.true in omega (arith, long, less)) in
    let at : get_or t.processes q p ≡ p = ap (λ l. get_or l q p) (sym c.processes-processes.ensures) ∙ sym c.index-processes-q.is in
    let same : c.as_slice-operations.result.now ≡ p.operations = c.as_slice-operations.ensures ∙ ap (λ (x : Process). x.operations) (sym c.index-processes-q.is) in
    process_more c.args.location.now c.args.value t.processes q p c.together-tally.result low at
    (c.together-tally.ensures c.args.location.now c.args.value (operations_in (take q t.processes)) p.operations c.loop-q.invariant (subst (λ (l : List Op). IsTallyOf c.args.location.now c.args.value l c.tally_of_operations.result) same c.tally_of_operations.ensures))
