use Rattle.std.proofs.Common.{◌≡◌}
use Rattle.std.specs.List.{filter, flat_map, range_with_len}
use Rattle.std.specs.Prelude.{is_some}
use Rattle.var_layout.specs.Numbers.{read_at}
use Rattle.clause_blocks.specs.Blocks.{clauses_of_read}
use Rattle.clause_blocks.proofs.read_clauses.clauses_of_reads.Given as goal

abbrev pub invariant-loop-r : goal.invariant-loop-r
invariant-loop-r l = l.clauses.items ≡ flat_map (clauses_of_read l.layout) (filter (λ i. is_some (read_at l.layout i)) (range_with_len 0 l.r))
