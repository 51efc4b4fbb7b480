use Rattle.std.proofs.Common.{◌≡◌, ◌++◌, ◌∷◌, [], map, take}
use Rattle.clause_blocks.specs.Blocks.{implies}
use Rattle.clause_blocks.proofs.read_clauses.push_reads_initial.Given as goal

abbrev pub invariant-loop-literal : goal.invariant-loop-literal
invariant-loop-literal l = l.clauses.items ≡ l.initial.clauses.items ++ map (λ literal. implies l.variable (literal ∷ [])) (take l.literal-index l.after)
