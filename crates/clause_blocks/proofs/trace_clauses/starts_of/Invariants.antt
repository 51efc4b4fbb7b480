use Rattle.std.proofs.Common.{◌≡◌, map}
use Rattle.std.specs.List.{range_with_len}
use Rattle.clause_blocks.specs.Pieces.{clauses_before}
use Rattle.clause_blocks.proofs.trace_clauses.starts_of.Given as goal

abbrev pub invariant-loop-k : goal.invariant-loop-k
invariant-loop-k l = record {
  made : l.starts.items ≡ map (clauses_before l.pieces) (range_with_len 0 l.k);
  so_far : l.before ≡ clauses_before l.pieces l.k;
}
