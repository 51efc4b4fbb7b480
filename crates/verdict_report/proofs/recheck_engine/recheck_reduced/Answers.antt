use Rattle.std.proofs.Common.{rules, subst}
use Rattle.std.proofs.lemmas.Result.{err_from_is_err_and}
use Rattle.certificate.specs.Rechecked.{HasRecheckFault}
use Rattle.clause_blocks.specs.Clauses.{clauses_of}
use Rattle.text_lines.specs.Fault.{IsRefusal}
use Rattle.trace_semantics.specs.Trace.{TraceValue}
use Rattle.verdict_report.proofs.RecheckLemmas.{refutes, refused}
use Rattle.verdict_report.proofs.recheck_engine.recheck_reduced.Goals as goal

pub returns : goal.returns
returns c = refutes c.args.reduced.now c.requires c.args.certificate.now c.in_ok-recheck.field-0 (search rules) (search rules)

pub returns-in_err-recheck : goal.returns-in_err-recheck
returns-in_err-recheck c =
    let refusal : IsRefusal (HasRecheckFault (clauses_of c.args.reduced.now.kept) c.args.certificate.now) c.in_err-recheck.field-0.0 =
    subst (λ (t : TraceValue). IsRefusal (HasRecheckFault (clauses_of t) c.args.certificate.now) c.in_err-recheck.field-0.0) c.in_ok-clauses.ensures c.in_err-recheck.ensures.refused in
    let p = err_from_is_err_and c.from_residual-in_err-recheck.result c.from_residual-in_err-recheck.ensures.1 in
    rw (p.1, p.2) (refused c.args.reduced.now c.requires c.args.certificate.now c.in_err-recheck.field-0.0 refusal)
