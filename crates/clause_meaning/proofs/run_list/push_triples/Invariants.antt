use Rattle.std.proofs.Common.{◌≡◌, ◌++◌, map}
use Rattle.std.specs.List.{range_with_len}
use Rattle.clause_meaning.specs.declared.run.ClauseRun.TheVariants as run
use Rattle.clause_meaning.proofs.run_list.push_triples.Given as goal

abbrev pub invariant-loop-i : goal.invariant-loop-i
invariant-loop-i l = l.runs.items ≡ l.initial.runs.items ++ map (λ i. run.TriplesFrom i) (range_with_len 0 l.i)
