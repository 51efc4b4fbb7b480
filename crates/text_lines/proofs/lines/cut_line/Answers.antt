use Rattle.std.proofs.Common.{◌<◌, ◌∙◌, ◌∷◌, length, sym, arith}
use Rattle.std.proofs.lemmas.Bool.Decides.{nat_tests}
use Rattle.text_lines.specs.Lines.{lines_of, is_line_feed}
use Rattle.text_lines.proofs.Cutting.CutLemmas.{lines_cut}
use Rattle.text_lines.proofs.lines.cut_line.Goals as goal

pub returns-clause-lines : goal.returns-clause-lines
returns-clause-lines c =
    let some : 0 < length c.args.text.now = grind (arith, nat_tests, c.if-is_empty.false, c.is_empty.ensures) in
    lines_cut c.args.text.now some ∙ (λ i. sym (c.cut_at.ensures.front is_line_feed c.find_line_feed.ensures) i ∷ lines_of (sym (c.cut_at.ensures.back is_line_feed c.find_line_feed.ensures) i))
