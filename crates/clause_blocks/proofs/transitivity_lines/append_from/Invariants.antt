use Rattle.std.proofs.Common.{◌≡◌, ◌+◌}
use Rattle.trace_semantics.specs.Trace.{operation_count}
use Rattle.clause_blocks.proofs.InPieces.RangeSentLemmas.{lines_to, of_pair}
use Rattle.clause_blocks.proofs.transitivity_lines.append_from.Given as goal

abbrev pub invariant-loop-j : goal.invariant-loop-j
invariant-loop-j l = l.lines ≡ lines_to l.initial.lines (of_pair (operation_count l.layout) l.i) (l.i + 1) l.j
