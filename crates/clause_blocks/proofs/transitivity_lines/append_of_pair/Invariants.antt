use Rattle.std.proofs.Common.{◌≡◌, ◌+◌}
use Rattle.trace_semantics.specs.Trace.{operation_count}
use Rattle.clause_blocks.specs.Blocks.{no_cycle}
use Rattle.clause_blocks.proofs.InPieces.RangeSentLemmas.{lines_to}
use Rattle.clause_blocks.proofs.transitivity_lines.append_of_pair.Given as goal

abbrev pub invariant-loop-k : goal.invariant-loop-k
invariant-loop-k l = l.lines ≡ lines_to l.initial.lines (no_cycle (operation_count l.layout) l.i l.j) (l.j + 1) l.k
