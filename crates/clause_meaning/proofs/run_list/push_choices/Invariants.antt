use Rattle.std.proofs.Common.{◌≡◌, ◌++◌, map, take}
use Rattle.var_layout.specs.declared.candidate.ReadsFromChoice.{ReadsFromChoice}
use Rattle.clause_meaning.specs.Runs.{run_from}
use Rattle.clause_meaning.proofs.run_list.push_choices.Given as goal

abbrev pub invariant-loop-choice : goal.invariant-loop-choice
invariant-loop-choice l = l.runs.items ≡ l.initial.runs.items ++ map (λ (c : ReadsFromChoice). run_from l.r c.variable c.candidate) (take l.choice-index l.choices)
