use Rattle.trace_part.specs.Selections.{stays_in}
use Rattle.trace_part.proofs.RowLemmas.{more_left}
use Rattle.trace_part.proofs.left.all_left.Goals as goal

pub loop-k-preserved : goal.loop-k-preserved
loop-k-preserved c =
    more_left (stays_in c.args.selection.now) c.processes-processes.result.now c.loop-k.k c.index-processes-k.result c.loop-k.all.items _ _
    c.loop-k-test.true c.index-processes-k.is c.loop-k.invariant c.in_ok-push.ensures.items c.in_ok-left_of.ensures
