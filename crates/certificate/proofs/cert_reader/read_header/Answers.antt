use Rattle.std.proofs.Common.{◌∙◌, sym}
use Rattle.certificate.proofs.CertificateText.HeaderLemmas.{next_silent}
use Rattle.certificate.proofs.cert_reader.read_header.Goals as goal

pub loop-line-preserved : goal.loop-line-preserved
loop-line-preserved c =
    next_silent c.args.text.now c.loop-line.number c.loop-line.rest.now c.in-Some.line.now c.in-Some.after.now c.loop-line.invariant c.in-Some.ensures.lines c.in-Some.ensures.shorter
    (sym c.is_dimacs_skipped_line.ensures ∙ c.if-not-is_dimacs_skipped_line.false)
