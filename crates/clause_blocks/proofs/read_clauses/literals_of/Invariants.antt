use Rattle.std.proofs.Common.{◌≡◌, map, take, pos}
use Rattle.var_layout.specs.declared.candidate.ReadsFromChoice.{ReadsFromChoice}
use Rattle.clause_blocks.proofs.read_clauses.literals_of.Given as goal

abbrev pub invariant-loop-choice : goal.invariant-loop-choice
invariant-loop-choice l = l.literals.items ≡ map (λ (c : ReadsFromChoice). pos c.variable) (take l.choice-index l.choices)
