use Rattle.std.proofs.Common.{◌≡◌, ◌∷◌, [], ℕ, map, take}
use Rattle.clause_blocks.specs.Blocks.{stands_before}
use Rattle.clause_blocks.proofs.unit_clauses.clauses_of_before.Given as goal

abbrev pub invariant-loop-pair : goal.invariant-loop-pair
invariant-loop-pair l = l.clauses.items ≡ map (λ (pair : ℕ × ℕ). stands_before l.layout pair.0 pair.1 ∷ []) (take l.pair-index l.pair-items)
