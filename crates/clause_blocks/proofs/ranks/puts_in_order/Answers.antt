use Rattle.std.proofs.Common.{slice_index, arith}
use Rattle.dimacs.specs.Assignment.{value_of}
use Rattle.trace_semantics.specs.Trace.{operation_count}
use Rattle.clause_blocks.proofs.ranks.puts_in_order.Goals as goal

pub returns : goal.returns
returns c = λ _. c.ranked_without_cycle.ensures (value_of c.args.assignment.now) (operation_count c.args.layout.now) (slice_index c.ranks-ranks.result)
    (λ i h. c.loop-i.invariant i (omega (arith, h, c.loop-i-test.false, c.operations-i-end.ensures)))
