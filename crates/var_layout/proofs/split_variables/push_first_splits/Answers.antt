use Rattle.std.proofs.Common.{◌≡◌, ◌≤◌, ◌++◌, ◌∙◌, ap, sym, length, take, arith, rules}
use Rattle.trace_semantics.specs.Trace.{operation_count}
use Rattle.var_layout.proofs.SplitLemmas.{enough_splits, one_more_row, splits_below, splits_from}
use Rattle.var_layout.proofs.split_variables.push_first_splits.Goals as goal

pub returns-then-len-most : goal.returns-then-len-most
returns-then-len-most c =
    let t = c.args.layout.now in
    let within : c.loop-i.i ≤ operation_count t = search rules in
    let long : c.len.result ≡ length c.loop-i.variables.items = search rules in
    let same = ap length c.loop-i.invariant in
    ap (take c.args.most) c.loop-i.invariant ∙ enough_splits t c.loop-i.i c.args.most within (omega (arith, long, same, c.if-len-most.true))

pub loop-i-preserved : goal.loop-i-preserved
loop-i-preserved c = c.in_ok-push_splits.ensures ∙ ap (λ l. l ++ splits_from c.args.layout.now c.loop-i.i) c.loop-i.invariant ∙ sym (one_more_row c.args.layout.now c.loop-i.i)

pub returns : goal.returns
returns c =
    let t = c.args.layout.now in
    let end : c.loop-i.i ≡ operation_count t = search rules in
    ap (take c.args.most) (c.loop-i.invariant ∙ ap (splits_below t) end)
