use Rattle.std.proofs.Common.{◌≡◌, ◌++◌, map, take}
use Rattle.var_layout.specs.declared.candidate.FinalChoice.{FinalChoice}
use Rattle.clause_meaning.specs.declared.run.ClauseRun.TheVariants as run
use Rattle.clause_meaning.proofs.run_list.push_finals.Given as goal

abbrev pub invariant-loop-choice : goal.invariant-loop-choice
invariant-loop-choice l = l.runs.items ≡ l.initial.runs.items ++ map (λ (c : FinalChoice). run.FromLast l.k c.variable c.writer) (take l.choice-index l.finals)
