use Rattle.std.proofs.Common.{◌≡◌, ◌++◌, take}
use Rattle.std.specs.List.{flat_map}
use Rattle.var_layout.specs.declared.candidate.ReadsFromChoice.{ReadsFromChoice}
use Rattle.clause_blocks.specs.Blocks.{reads_from}
use Rattle.clause_blocks.proofs.read_clauses.push_choices.Given as goal

abbrev pub invariant-loop-choice : goal.invariant-loop-choice
invariant-loop-choice l = l.clauses.items ≡ l.initial.clauses.items ++ flat_map (λ (c : ReadsFromChoice). reads_from l.layout l.r c.variable c.candidate) (take l.choice-index l.choices)
