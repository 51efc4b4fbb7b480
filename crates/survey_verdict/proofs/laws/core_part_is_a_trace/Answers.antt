use Rattle.std.proofs.Common.{subst, sym}
use Rattle.trace_semantics.specs.Judgement.{has_come}
use Rattle.trace_semantics.specs.Trace.{IsTrace}
use Rattle.survey_verdict.proofs.laws.core_part_is_a_trace.Goals as goal

pub returns : goal.returns
returns c options t core ok given = subst IsTrace (sym given.is_part.trace_is) (c.part_is_a_trace.ensures t given.is_part.ordered (has_come core.names) ok)
