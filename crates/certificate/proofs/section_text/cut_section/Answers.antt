use Rattle.std.proofs.Common.{◌+◌, ◌≤◌, ◌∙◌, length, take, sym, ap, arith}
use Rattle.certificate.proofs.CertificateText.SectionCutLemmas.{within_text, next_passed, cut_at_end}
use Rattle.certificate.proofs.section_text.cut_section.Goals as goal

pub returns-then-is_end_line-clause-cut : goal.returns-then-is_end_line-clause-cut
returns-then-is_end_line-clause-cut c =
    cut_at_end c.args.text.now c.loop-line.bytes c.loop-line.count c.loop-line.rest.now c.in-Some.line.now c.in-Some.after.now (take c.min.result c.args.text.now) c.loop-line.invariant c.in-Some.ensures.lines
    (sym c.is_end_line.ensures ∙ c.if-is_end_line.true) (ap (λ n. take n c.args.text.now) c.min.ensures)

pub overflow_add-bytes-in-Some : goal.overflow_add-bytes-in-Some
overflow_add-bytes-in-Some c =
    let within : c.loop-line.bytes + (length c.in-Some.line.now + 1) ≤ length c.args.text.now + 1 =
    within_text c.args.text.now c.loop-line.bytes c.loop-line.count c.loop-line.rest.now c.in-Some.line.now c.in-Some.after.now c.loop-line.invariant c.in-Some.ensures.lines in
    omega (arith, within)

pub loop-line-preserved : goal.loop-line-preserved
loop-line-preserved c =
    next_passed c.args.text.now c.loop-line.bytes c.loop-line.count c.loop-line.rest.now c.in-Some.line.now c.in-Some.after.now c.loop-line.invariant c.in-Some.ensures.lines c.in-Some.ensures.shorter
    (sym c.is_end_line.ensures ∙ c.if-is_end_line.false)
