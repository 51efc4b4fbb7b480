use Rattle.std.proofs.Common.{◌++◌, ◌∷◌, [], length, arith, ap, sym, ◌∙◌}
use Rattle.reducer.specs.Reduction.{kept_op}
use Rattle.reducer.proofs.KeptTrace.CopyLemmas.{op_here, op_is, one_more_op, all_ops}
use Rattle.reducer.proofs.kept.kept_operations.Goals as goal

pub overflow_sub-op : goal.overflow_sub-op
overflow_sub-op c =
    let at = op_here c.args.trace.now c.args.process.now c.args.places.now c.loop-k.k c.requires.places c.loop-k-test.true in
    omega (arith, at.place, at.least)

pub bounds-old-places : goal.bounds-old-places
bounds-old-places c =
    let at = op_here c.args.trace.now c.args.process.now c.args.places.now c.loop-k.k c.requires.places c.loop-k-test.true in
    omega (arith, at.place, at.least, at.most, ap length c.as_slice-old.ensures)

pub loop-k-preserved : goal.loop-k-preserved
loop-k-preserved c =
    let t = c.args.trace.now in
    let at = op_here t c.args.process.now c.args.places.now c.loop-k.k c.requires.places c.loop-k-test.true in
    c.in_ok-push.ensures.items
    ∙ (λ i. c.loop-k.invariant i ++ c.in_ok-new_op.ensures (kept_op t) c.requires.left i ∷ [])
    ∙ sym (one_more_op t c.args.process.now c.args.places.now c.loop-k.k at c.index-old-places.result
    (op_is t c.recall_invariant.ensures c.args.process.now c.requires.listed c.args.places.now c.loop-k.k at c.as_slice-old.result.now c.index-old-places.result c.as_slice-old.ensures c.index-old-places.is))

pub returns : goal.returns
returns c = c.loop-k.invariant ∙ all_ops c.args.trace.now c.args.process.now c.args.places.now c.loop-k.k c.requires.places c.loop-k-test.false
