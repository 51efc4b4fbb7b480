use Rattle.text_lines.proofs.Cutting.LineLemmas.{line_ended}
use Rattle.text_lines.proofs.lines.ended_line_is_first.Goals as goal

pub returns : goal.returns
returns c = line_ended
