use Rattle.std.proofs.Common.{length}
use Rattle.certificate.proofs.CertificateText.SectionReadLemmas.{IsReadSoFar}
use Rattle.certificate.proofs.section_reader.read_half.Given as goal

abbrev pub invariant-loop-line : goal.invariant-loop-line
invariant-loop-line l = IsReadSoFar l.text l.before l.number l.rest l.sections.items

abbrev pub decreases-loop-line : goal.decreases-loop-line
decreases-loop-line l = length l.rest
