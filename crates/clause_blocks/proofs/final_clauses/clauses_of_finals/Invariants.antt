use Rattle.std.proofs.Common.{◌≡◌}
use Rattle.std.specs.List.{flat_map, range_with_len}
use Rattle.clause_blocks.specs.FinalClauses.{clauses_at}
use Rattle.clause_blocks.proofs.final_clauses.clauses_of_finals.Given as goal

abbrev pub invariant-loop-k : goal.invariant-loop-k
invariant-loop-k l = l.clauses.items ≡ flat_map (clauses_at l.layout) (range_with_len 0 l.k)
