use Rattle.std.proofs.Common.{◌≡◌, ◌<◌, length, get_or, sym, ◌∙◌, arith, subst}
use Rattle.std.proofs.lemmas.Option.{none-some}
use Rattle.trace_semantics.specs.declared.operation.OpName.{OpName}
use Rattle.trace_semantics.specs.Trace.{operation_at}
use Rattle.reason_text.proofs.FaultLemmas.{found, none_if_not, same_some}
use Rattle.reason_text.proofs.operation_table.OperationTable.find.Goals as goal

pub returns-in_default-clause-nowhere : goal.returns-in_default-clause-nowhere
returns-in_default-clause-nowhere c none holds =
    let n : OpName = record { process = c.args.process.now; place = c.args.place } in
    none_if_not (operation_at c.args.self.now.trace.now n) (λ there.
    let at = found c.args.self.now.trace.now c.args.self.now.numbers holds.numbered n there in
    none-some at.number (c.in_default.ensures ∙ at.numbered))

pub returns-in_default-try_from-clause-nowhere : goal.returns-in_default-try_from-clause-nowhere
returns-in_default-try_from-clause-nowhere c none holds =
    let n : OpName = record { process = c.args.process.now; place = c.args.place } in
    none_if_not (operation_at c.args.self.now.trace.now n) (λ there.
    let at = found c.args.self.now.trace.now c.args.self.now.numbers holds.numbered n there in
    let same : c.in-Some.number ≡ at.number = same_some c.in-Some.number at.number (c.in-Some.ensures ∙ at.numbered) in
    let few = c.recall_invariant.ensures.few_processes in
    let low = at.low in
    let large = c.in_default-try_from.ensures in
    omega (arith, same, few, low, large))

pub returns-clause-nowhere : goal.returns-clause-nowhere
returns-clause-nowhere c none holds =
    let n : OpName = record { process = c.args.process.now; place = c.args.place } in
    none_if_not (operation_at c.args.self.now.trace.now n) (λ there.
    let at = found c.args.self.now.trace.now c.args.self.now.numbers holds.numbered n there in
    let same : at.number ≡ c.in-Ok.small = same_some at.number c.in-Some.number (sym at.numbered ∙ sym c.in-Some.ensures) ∙ sym c.in-Ok.ensures.1 in
    c.operation_at.ensures.nowhere none at.process (subst (λ k. k < length c.args.self.now.trace.now.processes) same at.low) (subst (λ k. get_or c.args.self.now.trace.now.processes k at.process ≡ at.process) same at.at) at.called at.least at.most)
