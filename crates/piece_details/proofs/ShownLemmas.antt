-- What is decided with the help of a survey is shown.
use Rattle.cube_jobs.specs.Options.{OptionsValue}
use Rattle.piece_details.specs.Details.{IsShown}
use Rattle.survey_verdict.specs.Surveyed.{IsSurveyed}
use Rattle.survey_verdict.specs.declared.surveyed.Surveyed.{Surveyed}
use Rattle.survey_verdict.specs.declared.surveyed.Surveyed.TheVariants.{Decided, Reasoned, Refuted, Undecided}
use Rattle.trace_decision.specs.declared.decision.Decision.TheVariants.{Consistent, Inconsistent, Unknown}
use Rattle.trace_semantics.specs.Trace.{TraceValue}

pub shown_by_survey : (options : OptionsValue) (t : TraceValue) (surveyed : Surveyed) → IsSurveyed options t surveyed → IsShown t surveyed
shown_by_survey options t (Decided (Consistent schedule)) legal = (options, legal)
shown_by_survey options t (Decided (Inconsistent refutation)) refuted = (options, refuted.0)
shown_by_survey options t (Decided (Unknown cubes)) none = absurd none
shown_by_survey options t (Refuted core) refuted = (options, refuted)
shown_by_survey options t (Reasoned reasons) reasoned = (options, reasoned)
shown_by_survey options t (Undecided extent) open_yet = (options, open_yet)
