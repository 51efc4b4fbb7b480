use Rattle.std.proofs.Common.{arith}
use Rattle.certificate.proofs.RecheckLemmas.{first_found}
use Rattle.certificate.proofs.rechecking.section_of.Goals as goal

pub returns-then-section-leaf : goal.returns-then-section-leaf
returns-then-section-leaf c = first_found c.args.sections.now c.args.leaf c.loop-section.section-index c.section-item.result (omega arith) c.section-item.is c.loop-section.invariant c.if-section-leaf.true
