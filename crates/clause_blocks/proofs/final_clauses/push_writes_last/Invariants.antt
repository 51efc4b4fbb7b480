use Rattle.std.proofs.Common.{◌≡◌, ◌++◌, ◌∷◌, [], map, take}
use Rattle.var_layout.specs.Numbers.{others}
use Rattle.clause_blocks.specs.Blocks.{implies, stands_before}
use Rattle.clause_blocks.proofs.final_clauses.push_writes_last.Given as goal

abbrev pub invariant-loop-v : goal.invariant-loop-v
invariant-loop-v l = l.clauses.items ≡ l.initial.clauses.items ++ map (λ v. implies l.choice.variable (stands_before l.layout v l.choice.writer ∷ [])) (others l.choice.writer (take l.v-index l.writers))
