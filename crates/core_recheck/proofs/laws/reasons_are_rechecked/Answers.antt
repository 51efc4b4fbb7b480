use Rattle.std.proofs.Common.{ap, ◌∙◌}
use Rattle.reason_text.specs.Header.{is_headed}
use Rattle.core_recheck.proofs.laws.reasons_are_rechecked.Goals as goal

pub returns : goal.returns
returns c options t reasons trace_text ok spelled given = (
  record { value = t; is_trace = ok; spelled = spelled; accepted = given.accepted; no_schedule = given.none_legal },
  ap is_headed given.accepted.parts ∙ given.accepted.headed,
)
