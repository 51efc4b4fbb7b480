use Rattle.std.proofs.Common.{◌≡◌, ◌<◌, ◌≤◌, ◌-◌, length, get_or, ap, sym, ◌∙◌, arith}
use Rattle.std.specs.Prelude.{Some}
use Rattle.std.specs.List.{slice_get}
use Rattle.std.proofs.lemmas.Option.{slice_get-get_or}
use Rattle.trace_semantics.specs.declared.trace.Process.{Process}
use Rattle.reason_clauses.proofs.MakerLemmas.{number_of_operation}
use Rattle.reason_clauses.proofs.MissingLemmas.{past_process}
use Rattle.reason_clauses.proofs.lookups.find_operation.Goals as goal

pub returns-clause-there : goal.returns-clause-there
returns-clause-there c =
    let t = c.args.trace.now in
    let p = c.index-processes-q.result in
    let low : c.args.n.process < length t.processes = (let long = ap length c.processes-processes.ensures in let past = c.if-q-processes.false in omega (arith, long, past)) in
    let at : get_or t.processes c.args.n.process p ≡ p = ap (λ l. get_or l c.args.n.process p) (sym c.processes-processes.ensures) ∙ sym c.index-processes-q.is in
    let some : 1 ≤ c.args.n.place = (let none = c.if-n-eq0.false in omega (arith, none)) in
    let same : c.as_slice-operations.result.now ≡ p.operations = c.as_slice-operations.ensures ∙ ap (λ (x : Process). x.operations) (sym c.index-processes-q.is) in
    let inside : c.args.n.place - 1 < length p.operations = (let long = ap length same in let past = c.if-k-operations.false in omega (arith, long, past)) in
    let here : slice_get p.operations (c.args.n.place - 1) ≡ Some c.index-operations-k.result =
    slice_get-get_or p.operations (c.args.n.place - 1) c.index-operations-k.result inside ∙ ap Some (ap (λ l. get_or l (c.args.n.place - 1) c.index-operations-k.result) (sym same) ∙ sym c.index-operations-k.is) in
    number_of_operation t c.recall_invariant.ensures c.args.n p c.index-operations-k.result low at some here

pub returns-then-k-operations-clause-missing : goal.returns-then-k-operations-clause-missing
returns-then-k-operations-clause-missing c none known =
    let t = c.args.trace.now in
    let p = c.index-processes-q.result in
    let low : c.args.n.process < length t.processes = (let long = ap length c.processes-processes.ensures in let past = c.if-q-processes.false in omega (arith, long, past)) in
    let at : get_or t.processes c.args.n.process p ≡ p = ap (λ l. get_or l c.args.n.process p) (sym c.processes-processes.ensures) ∙ sym c.index-processes-q.is in
    let some : 1 ≤ c.args.n.place = (let zero_place = c.if-n-eq0.false in omega (arith, zero_place)) in
    let same : c.as_slice-operations.result.now ≡ p.operations = c.as_slice-operations.ensures ∙ ap (λ (x : Process). x.operations) (sym c.index-processes-q.is) in
    let past : length p.operations ≤ c.args.n.place - 1 = (let long = ap length same in let over = c.if-k-operations.true in omega (arith, long, over)) in
    past_process t c.recall_invariant.ensures c.args.n p low at some past known
