use Rattle.certificate.specs.Rechecked.{HaveSections}
use Rattle.certificate.proofs.rechecking.first_missing.Given as goal

abbrev pub invariant-loop-leaf : goal.invariant-loop-leaf
invariant-loop-leaf l = HaveSections l.leaf l.sections
