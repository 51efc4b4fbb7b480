use Rattle.std.proofs.Common.{◌≡◌, ◌∷◌, [], ◌+◌, map}
use Rattle.std.specs.List.{filter, range_with_len}
use Rattle.var_layout.specs.Numbers.{in_one_process}
use Rattle.clause_blocks.specs.Blocks.{stands_before}
use Rattle.clause_blocks.proofs.unit_clauses.clauses_of_program_order.Given as goal

abbrev pub invariant-loop-i : goal.invariant-loop-i
invariant-loop-i l = l.clauses.items ≡ map (λ i. stands_before l.layout i (i + 1) ∷ []) (filter (λ i. in_one_process l.layout i (i + 1)) (range_with_len 0 l.i))
