use Rattle.std.proofs.Common.{length}
use Rattle.certificate.proofs.CertificateText.SectionCutLemmas.{IsPassed}
use Rattle.certificate.proofs.section_text.cut_section.Given as goal

abbrev pub invariant-loop-line : goal.invariant-loop-line
invariant-loop-line l = IsPassed l.text l.bytes l.count l.rest

abbrev pub decreases-loop-line : goal.decreases-loop-line
decreases-loop-line l = length l.rest
