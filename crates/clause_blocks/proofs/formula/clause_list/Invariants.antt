use Rattle.std.proofs.Common.{◌≡◌}
use Rattle.std.specs.List.{flat_map, range_with_len}
use Rattle.clause_blocks.proofs.ClauseList.ListLemmas.{piece_at}
use Rattle.clause_blocks.proofs.formula.clause_list.Given as goal

abbrev pub invariant-loop-k : goal.invariant-loop-k
invariant-loop-k g l = l.made.items ≡ flat_map (piece_at l.clauses) (range_with_len 0 l.k)
