use Rattle.std.proofs.Common.{◌≡◌, ◌<◌, length, get_or, ap, sym, ◌∙◌, arith}
use Rattle.trace_semantics.specs.declared.operation.OpName.{OpName}
use Rattle.trace_semantics.proofs.NameLemmas.{same_bytes, bytes_same}
use Rattle.reason_clauses.proofs.NumberLemmas.{name_at}
use Rattle.reason_clauses.proofs.PairLemmas.{is_name_of}
use Rattle.reason_clauses.proofs.lookups.is_named.Goals as goal

pub returns-clause-only : goal.returns-clause-only
returns-clause-only c right =
    let t = c.args.trace.now in
    let p = c.index-processes-q.result in
    let low : c.args.n.process < length t.processes = (let long = ap length c.processes-processes.ensures in let past = c.if-q-processes.false in omega (arith, long, past)) in
    let at : get_or t.processes c.args.n.process p ≡ p = ap (λ l. get_or l c.args.n.process p) (sym c.processes-processes.ensures) ∙ sym c.index-processes-q.is in
    is_name_of t c.args.n p c.args.name.now low at (same_bytes p.name c.args.name.now.process (sym c.is_called.ensures ∙ c.if-not-is_called.false)) (c.if-n-place.false ∙ c.from-place.ensures)

pub returns-then-not-is_called-clause-found : goal.returns-then-not-is_called-clause-found
returns-then-not-is_called-clause-found c low same =
    let t = c.args.trace.now in
    let p = c.index-processes-q.result in
    let at : get_or t.processes c.args.n.process p ≡ p = ap (λ l. get_or l c.args.n.process p) (sym c.processes-processes.ensures) ∙ sym c.index-processes-q.is in
    let called : p.name ≡ c.args.name.now.process = sym (name_at t.processes c.args.n.process p low at) ∙ ap (λ (x : OpName). x.process) same in
    sym c.if-not-is_called.true ∙ (c.is_called.ensures ∙ bytes_same p.name c.args.name.now.process called)
