use Rattle.survey_verdict.proofs.SurveyedLemmas.{core_certified}
use Rattle.survey_verdict.proofs.laws.core_certificate_is_accepted.Goals as goal

pub returns : goal.returns
returns c options t core given = core_certified c.certificate_is_accepted.ensures.spelled c.certificate_is_accepted.ensures.accepted options t core given
