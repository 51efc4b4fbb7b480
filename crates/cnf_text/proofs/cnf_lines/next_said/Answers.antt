use Rattle.std.proofs.Common.{◌∙◌, sym}
use Rattle.text_lines.specs.Lines.{lines_of}
use Rattle.cnf_text.proofs.CnfLineLemmas.{pass, stop}
use Rattle.cnf_text.proofs.cnf_lines.next_said.Goals as goal

pub returns-then-not-is_dimacs_skipped_line : goal.returns-then-not-is_dimacs_skipped_line
returns-then-not-is_dimacs_skipped_line c =
    stop _ _ _ _ _ (lines_of c.loop-line.rest.now) c.in-Some.line.now (lines_of c.in-Some.after.now) _ c.loop-line.invariant c.in-Some.ensures.lines c.in-Some.ensures.shorter (sym c.is_end_line.ensures ∙ c.if-is_end_line.false) (sym c.is_dimacs_skipped_line.ensures ∙ c.if-not-is_dimacs_skipped_line.true)

pub loop-line-preserved : goal.loop-line-preserved
loop-line-preserved c =
    pass _ _ _ _ _ (lines_of c.loop-line.rest.now) c.in-Some.line.now (lines_of c.in-Some.after.now) _ c.loop-line.invariant c.in-Some.ensures.lines c.in-Some.ensures.shorter (sym c.is_end_line.ensures ∙ c.if-is_end_line.false) (sym c.is_dimacs_skipped_line.ensures ∙ c.if-not-is_dimacs_skipped_line.false)
