use Rattle.std.proofs.Common.{◌≡◌, map, take}
use Rattle.result_ledger.specs.Ledger.{empty_slot}
use Rattle.result_ledger.proofs.ledger.empty_slots.Given as goal

abbrev pub invariant-loop-cube : goal.invariant-loop-cube
invariant-loop-cube l = l.slots.items ≡ map empty_slot (take l.cube-index l.cubes)
