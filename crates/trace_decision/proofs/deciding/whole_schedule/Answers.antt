use Rattle.std.proofs.Common.{rules, subst, sym}
use Rattle.std.proofs.lemmas.Result.{IfOk-weaker}
use Rattle.dimacs.specs.Assignment.{value_of}
use Rattle.schedule_decode.specs.Decode.{IsModelOfKept}
use Rattle.trace_semantics.specs.Trace.{TraceValue}
use Rattle.trace_decision.proofs.DecideLemmas.{expanded_legal}
use Rattle.trace_decision.proofs.deciding.whole_schedule.Goals as goal

pub returns : goal.returns
returns c =
    let model : IsModelOfKept (value_of c.args.truth.now) c.layout.result.now c.args.reduced.now.kept = subst (λ (t : TraceValue). IsModelOfKept (value_of c.args.truth.now) t c.args.reduced.now.kept) (sym c.layout.ensures) c.requires in
    IfOk-weaker c.expand.result _ _ (λ schedule e. expanded_legal c.args.reduced.now (search rules) c.in_ok-kept.kept schedule (c.in_ok-kept.ensures.legal model) e) c.expand.ensures
