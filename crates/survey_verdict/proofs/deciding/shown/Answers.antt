use Rattle.std.proofs.Common.{subst, sym}
use Rattle.surveyor.specs.declared.Finding.{Finding}
use Rattle.survey_verdict.specs.Findings.{IsShownBy}
use Rattle.survey_verdict.proofs.deciding.shown.Goals as goal

pub returns-in_ok-shown-in-Reasons : goal.returns-in_ok-shown-in-Reasons
returns-in_ok-shown-in-Reasons g c =
    subst (λ (f : Finding). IsShownBy c.args.run.now.options.now c.args.trace.now f c.in_ok-shown-in-Reasons.shown) (sym c.in-Reasons.is) (c.in_ok-shown-in-Reasons.ensures c.args.run.now.options.now)

pub returns-in_ok-shown-in-Schedule : goal.returns-in_ok-shown-in-Schedule
returns-in_ok-shown-in-Schedule g c =
    subst (λ (f : Finding). IsShownBy c.args.run.now.options.now c.args.trace.now f c.in_ok-shown-in-Schedule.shown) (sym c.in-Schedule.is) (c.in_ok-shown-in-Schedule.ensures c.args.run.now.options.now)
