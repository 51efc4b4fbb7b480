use Rattle.std.proofs.Common.{◌∙◌}
use Rattle.reducer.proofs.KeptTrace.BoundsLemmas.{bounds_more, few_operations}
use Rattle.reducer.proofs.kept_places.all_bounds.Goals as goal

pub loop-process-preserved : goal.loop-process-preserved
loop-process-preserved c =
    c.in_ok-push.ensures.items
    ∙ bounds_more c.args.trace.now c.recall_invariant.ensures c.args.set.now c.requires c.processes-processes.result.now c.processes-processes.ensures c.loop-process.process-index c.process-item.result c.loop-process.all.items _ c.loop-process-test.true c.process-item.is c.loop-process.invariant c.in_ok-bounds_in.ensures

pub bounds_in-requires : goal.bounds_in-requires
bounds_in-requires c = few_operations c.args.trace.now c.recall_invariant.ensures c.processes-processes.result.now c.processes-processes.ensures c.loop-process.process-index c.process-item.result c.loop-process-test.true c.process-item.is
