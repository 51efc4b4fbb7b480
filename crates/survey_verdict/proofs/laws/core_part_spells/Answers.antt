use Rattle.std.proofs.Common.{true}
use Rattle.survey_verdict.proofs.laws.core_part_spells.Goals as goal

pub returns : goal.returns
returns c options t core is_trace given = c.part_text_spells.ensures t core.names core.part true is_trace given.is_part
