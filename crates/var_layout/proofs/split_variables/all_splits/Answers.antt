use Rattle.std.proofs.Common.{◌≡◌, ◌++◌, ◌∙◌, ap, sym, rules}
use Rattle.trace_semantics.specs.Trace.{operation_count}
use Rattle.var_layout.proofs.SplitLemmas.{one_more_row, splits_below, splits_from}
use Rattle.var_layout.proofs.split_variables.all_splits.Goals as goal

pub loop-i-preserved : goal.loop-i-preserved
loop-i-preserved c = c.in_ok-push_splits.ensures ∙ ap (λ l. l ++ splits_from c.args.layout.now c.loop-i.i) c.loop-i.invariant ∙ sym (one_more_row c.args.layout.now c.loop-i.i)

pub returns : goal.returns
returns c =
    let t = c.args.layout.now in
    let end : c.loop-i.i ≡ operation_count t = search rules in
    c.loop-i.invariant ∙ ap (splits_below t) end
