use Rattle.survey_verdict.proofs.SurveyedLemmas.{decided_of}
use Rattle.survey_verdict.proofs.deciding.decided_if_short.Goals as goal

pub returns-in_ok-decision-in-Some : goal.returns-in_ok-decision-in-Some
returns-in_ok-decision-in-Some g c = decided_of c.args.run.now.options.now c.args.trace.now c.in_ok-small.small c.in-Some.reduced c.in-Some.is c.in_ok-small.ensures c.in_ok-decision-in-Some.decision c.in_ok-decision-in-Some.ensures
