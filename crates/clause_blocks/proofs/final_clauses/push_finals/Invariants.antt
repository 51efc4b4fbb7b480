use Rattle.std.proofs.Common.{◌≡◌, ◌++◌, ◌∷◌, [], map, take}
use Rattle.std.specs.List.{flat_map}
use Rattle.var_layout.specs.declared.candidate.FinalChoice.{FinalChoice}
use Rattle.var_layout.specs.Numbers.{others}
use Rattle.clause_blocks.specs.Blocks.{implies, stands_before}
use Rattle.clause_blocks.proofs.final_clauses.push_finals.Given as goal

abbrev pub invariant-loop-choice : goal.invariant-loop-choice
invariant-loop-choice l = l.clauses.items ≡ l.initial.clauses.items ++ flat_map (λ (c : FinalChoice). map (λ v. implies c.variable (stands_before l.layout v c.writer ∷ [])) (others c.writer l.writers)) (take l.choice-index l.finals)
