use Rattle.std.proofs.Common.{◌∙◌, sym}
use Rattle.trace_text.proofs.LineWords.LineLemmas.{pointwise_pair}
use Rattle.trace_text.proofs.header.version_of.Goals as goal

pub returns-then-is_header_of : goal.returns-then-is_header_of
returns-then-is_header_of c = pointwise_pair _ _ (sym c.is_header_of.ensures ∙ c.if-is_header_of.true)

pub returns-then-is_header_of-2 : goal.returns-then-is_header_of-2
returns-then-is_header_of-2 c = pointwise_pair _ _ (sym c.is_header_of-else-is_header_of.ensures ∙ c.if-is_header_of-2.true)

pub returns-then-is_header_of-3 : goal.returns-then-is_header_of-3
returns-then-is_header_of-3 c = pointwise_pair _ _ (sym c.is_header_of-else-is_header_of-2.ensures ∙ c.if-is_header_of-3.true)
