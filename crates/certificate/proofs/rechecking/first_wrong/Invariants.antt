use Rattle.std.proofs.Common.{take}
use Rattle.certificate.specs.Rechecked.{AreRight}
use Rattle.certificate.proofs.rechecking.first_wrong.Given as goal

abbrev pub invariant-loop-place : goal.invariant-loop-place
invariant-loop-place l = AreRight l.count (take l.place l.sections)
