use Rattle.std.proofs.Common.{◌≡◌, ℕ, map, take}
use Rattle.std.specs.Prelude.{◌==◌}
use Rattle.std.specs.List.{filter}
use Rattle.var_layout.proofs.known_pairs.paired_with.Given as goal

abbrev pub invariant-loop-pair : goal.invariant-loop-pair
invariant-loop-pair l = l.found.items ≡ map (λ (pair : ℕ × ℕ). pair.1) (filter (λ (pair : ℕ × ℕ). pair.0 == l.i) (take l.pair-index l.pairs))
