use Rattle.std.proofs.Common.{◌≡◌}
use Rattle.trace_semantics.specs.Trace.{operation_count}
use Rattle.clause_blocks.specs.Blocks.{transitivity_from}
use Rattle.clause_blocks.proofs.InPieces.RangeSentLemmas.{lines_to}
use Rattle.clause_blocks.proofs.transitivity_lines.append_of_neighbours.Given as goal

abbrev pub invariant-loop-i : goal.invariant-loop-i
invariant-loop-i l = l.lines ≡ lines_to l.initial.lines (transitivity_from (operation_count l.layout)) l.first l.i
