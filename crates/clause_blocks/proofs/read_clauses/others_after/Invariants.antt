use Rattle.std.proofs.Common.{◌≡◌, map, take}
use Rattle.clause_blocks.specs.Blocks.{stands_before}
use Rattle.clause_blocks.proofs.read_clauses.others_after.Given as goal

abbrev pub invariant-loop-v : goal.invariant-loop-v
invariant-loop-v l = l.after.items ≡ map (stands_before l.layout l.r) (take l.v-index l.others)
