use Rattle.std.proofs.Common.{◌≡◌, true, take}
use Rattle.certificate.specs.Rechecked.{are_sections_of_clauses}
use Rattle.certificate.proofs.rechecking.recall_clauses.Given as goal

abbrev pub invariant-loop-section : goal.invariant-loop-section
invariant-loop-section l = are_sections_of_clauses (take l.section-index l.sections) ≡ true
