use Rattle.std.proofs.Common.{◌≡◌, map, take, pos}
use Rattle.var_layout.specs.declared.candidate.FinalChoice.{FinalChoice}
use Rattle.clause_blocks.proofs.final_clauses.literals_of.Given as goal

abbrev pub invariant-loop-choice : goal.invariant-loop-choice
invariant-loop-choice l = l.literals.items ≡ map (λ (c : FinalChoice). pos c.variable) (take l.choice-index l.finals)
