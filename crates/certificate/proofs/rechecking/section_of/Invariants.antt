use Rattle.std.proofs.Common.{◌≡◌, false, take}
use Rattle.std.specs.List.{list_any}
use Rattle.certificate.specs.Rechecked.{is_of}
use Rattle.certificate.proofs.rechecking.section_of.Given as goal

abbrev pub invariant-loop-section : goal.invariant-loop-section
invariant-loop-section l = list_any (is_of l.leaf) (take l.section-index l.sections) ≡ false
