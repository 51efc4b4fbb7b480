use Rattle.std.proofs.Common.{length}
use Rattle.certificate.specs.CertRead.{AreReadUpTo}
use Rattle.certificate.proofs.section_reader.read_sections.Given as goal

abbrev pub invariant-loop-alloc : goal.invariant-loop-alloc
invariant-loop-alloc l = AreReadUpTo l.before l.fn.text.items l.number l.rest.items l.sections.items

abbrev pub decreases-loop-alloc : goal.decreases-loop-alloc
decreases-loop-alloc l = length l.rest.items
