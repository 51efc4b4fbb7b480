use Rattle.std.proofs.Common.{sym, ◌∙◌}
use Rattle.reason_text.proofs.reason_header.cut_header.Goals as goal

pub returns-clause-lines : goal.returns-clause-lines
returns-clause-lines c = record {
  header = c.in-Some.line.now;
  lines = rw c.in-Some.is at c.cut_line.ensures.lines;
  headed = sym c.is_header_line.ensures ∙ c.if-not-is_header_line.false;
}
