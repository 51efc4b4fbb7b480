use Rattle.std.proofs.Common.{◌≡◌, true, take}
use Rattle.std.specs.List.{list_all}
use Rattle.dimacs.specs.Literal.{is_clause}
use Rattle.result_ledger.specs.Ledger.{cubes_in}
use Rattle.result_ledger.proofs.ledger.recall_clauses.Given as goal

abbrev pub invariant-loop-slot : goal.invariant-loop-slot
invariant-loop-slot l = list_all is_clause (cubes_in (take l.slot-index l.slots)) ≡ true
