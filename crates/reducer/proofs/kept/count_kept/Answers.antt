use Rattle.std.proofs.Common.{length, arith, ap}
use Rattle.reducer.proofs.KeptTrace.CopyLemmas.{sum_all, some_bound, few_so_far}
use Rattle.reducer.proofs.kept.count_kept.Goals as goal

pub overflow_sub-count : goal.overflow_sub-count
overflow_sub-count c =
    let some = some_bound c.args.trace.now c.args.all.now c.requires c.loop-bounds.bounds-index c.bounds-item.result c.loop-bounds-test.true c.bounds-item.is in
    omega (arith, some, ap length c.as_slice.ensures)

pub overflow_add-count : goal.overflow_add-count
overflow_add-count c =
    let few = few_so_far c.args.trace.now c.recall_invariant.ensures c.args.all.now c.requires c.loop-bounds.bounds-index c.loop-bounds.count c.bounds-item.result c.loop-bounds-test.true c.bounds-item.is c.loop-bounds.invariant in
    omega (arith, few, ap length c.as_slice.ensures)

pub returns : goal.returns
returns c = sum_all c.args.trace.now c.args.all.now c.requires c.loop-bounds.bounds-index c.loop-bounds.count (omega arith) c.loop-bounds.invariant
