use Rattle.std.proofs.Common.{length}
use Rattle.certificate.proofs.CertificateText.HeaderLemmas.{IsSilentSoFar}
use Rattle.certificate.proofs.cert_reader.read_header.Given as goal

abbrev pub invariant-loop-line : goal.invariant-loop-line
invariant-loop-line l = IsSilentSoFar l.text l.number l.rest

abbrev pub decreases-loop-line : goal.decreases-loop-line
decreases-loop-line l = length l.rest
