use Rattle.std.proofs.Common.{sym, subst}
use Rattle.std.specs.Prelude.{codes}
use Rattle.text_lines.specs.Words.{words_of}
use Rattle.trace_semantics.specs.Trace.{TraceValue}
use Rattle.reason_clauses.specs.declared.cause.ReasonCause.{ReasonCause}
use Rattle.reason_text.specs.LineFault.{HasKindFault}
use Rattle.reason_text.proofs.FaultLemmas.{handed_back}
use Rattle.reason_text.proofs.reason_line.read_kind.Goals as goal

pub returns-then-is_kind-8-clause-faulty : goal.returns-then-is_kind-8-clause-faulty
returns-then-is_kind-8-clause-faulty c =
    let t = c.args.table.now.trace.now in
    let rest = words_of c.args.rest.now in
    handed_back c.args.table.now (λ (cause : ReasonCause). (t : TraceValue) → HasKindFault t (codes "N") rest cause) (HasKindFault t c.args.kind.now rest) c.read_too_few.result
    (λ cause h. subst (λ kind. HasKindFault t kind rest cause) (sym (c.is_kind-8.ensures.same c.if-is_kind-8.true)) (h t)) c.read_too_few.ensures.faulty
