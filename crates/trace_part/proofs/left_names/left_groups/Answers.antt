use Rattle.trace_part.proofs.PairRowLemmas.{more_groups}
use Rattle.trace_part.proofs.left_names.left_groups.Goals as goal

pub loop-k-preserved : goal.loop-k-preserved
loop-k-preserved c = λ stays given.
    more_groups c.args.trace.now c.recall_invariant.ensures stays c.args.all.now given c.loop-k.k c.index-all-k.result c.in_ok-names_in.field-0 c.loop-k.groups.items _
    c.loop-k-test.true c.index-all-k.is (c.loop-k.invariant stays given) c.in_ok-names_in.ensures c.in_ok-push.ensures.items
