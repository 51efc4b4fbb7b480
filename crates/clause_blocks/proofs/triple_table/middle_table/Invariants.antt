use Rattle.std.proofs.Common.{◌≡◌, map}
use Rattle.std.specs.List.{range_with_len}
use Rattle.clause_blocks.specs.Triples.{below_middle}
use Rattle.clause_blocks.proofs.triple_table.middle_table.Given as goal

abbrev pub invariant-loop-j : goal.invariant-loop-j
invariant-loop-j l = record {
  made : l.table.items ≡ map (below_middle l.operations) (range_with_len 0 l.j);
  so_far : l.below ≡ below_middle l.operations l.j;
}
