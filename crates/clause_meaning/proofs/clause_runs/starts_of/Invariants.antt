use Rattle.std.proofs.Common.{◌≡◌, map}
use Rattle.std.specs.List.{range_with_len}
use Rattle.clause_meaning.specs.Starts.{start_of}
use Rattle.clause_meaning.proofs.clause_runs.starts_of.Given as goal

abbrev pub invariant-loop-k : goal.invariant-loop-k
invariant-loop-k l = record {
  made : l.starts.items ≡ map (start_of l.layout) (range_with_len 0 l.k);
  so_far : l.before ≡ start_of l.layout l.k;
}
