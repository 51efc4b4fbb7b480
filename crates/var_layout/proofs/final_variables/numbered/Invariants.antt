use Rattle.std.proofs.Common.{◌≡◌, ℕ, map, take}
use Rattle.std.specs.List.{enumerate_from}
use Rattle.var_layout.proofs.final_variables.numbered.Given as goal

abbrev pub invariant-loop-k : goal.invariant-loop-k
invariant-loop-k l = l.made.items ≡ map (λ (numbered : ℕ × ℕ). record { writer = numbered.1; variable = numbered.0 }) (enumerate_from l.first (take l.k l.writers))
