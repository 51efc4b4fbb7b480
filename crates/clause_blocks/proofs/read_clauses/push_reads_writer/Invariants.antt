use Rattle.std.proofs.Common.{◌≡◌, ◌++◌, ◌∷◌, [], map, take}
use Rattle.var_layout.specs.Numbers.{others}
use Rattle.clause_blocks.specs.Blocks.{implies, stands_before}
use Rattle.clause_blocks.proofs.read_clauses.push_reads_writer.Given as goal

abbrev pub invariant-loop-k : goal.invariant-loop-k
invariant-loop-k l = l.clauses.items ≡ l.initial.clauses.items ++ map (λ v. implies l.fn.choice.variable (stands_before l.layout v l.fn.choice.writer ∷ stands_before l.layout l.r v ∷ [])) (others l.fn.choice.writer (take l.k l.writers))
