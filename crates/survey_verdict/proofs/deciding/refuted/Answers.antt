use Rattle.std.proofs.Common.{inl, subst, sym}
use Rattle.std.specs.Prelude.{Option}
use Rattle.survey_verdict.proofs.SurveyedLemmas.{decided_so, refuted_by, too_long}
use Rattle.survey_verdict.specs.Surveyed.{IsRefutedIfShort}
use Rattle.trace_decision.specs.declared.refutation.Refutation.{Refutation}
use Rattle.survey_verdict.proofs.deciding.refuted.Goals as goal

pub returns-in-Some : goal.returns-in-Some
returns-in-Some g c =
    subst (λ (r : Option Refutation). IsRefutedIfShort c.args.run.now.options.now c.args.trace.now r) (sym c.refutation_of.ensures)
    (refuted_by c.args.run.now.options.now c.args.trace.now c.in-Some.decision (decided_so c.args.run.now.options.now c.args.trace.now c.in_ok-decided.decided c.in_ok-decided.ensures c.in-Some.decision c.in-Some.is))

pub returns-in-None : goal.returns-in-None
returns-in-None g c = inl (too_long c.args.run.now.options.now c.args.trace.now c.in_ok-decided.decided c.in_ok-decided.ensures c.in-None.is)
