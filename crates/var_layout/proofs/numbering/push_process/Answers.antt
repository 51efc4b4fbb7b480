use Rattle.std.proofs.Common.{◌≡◌, ◌<◌, ◌++◌, length, get_or, ap, ◌∙◌, arith}
use Rattle.var_layout.proofs.NumberingLemmas.{pushed_op, all_ops}
use Rattle.var_layout.proofs.numbering.push_process.Goals as goal

pub loop-k-preserved : goal.loop-k-preserved
loop-k-preserved c =
    let within : c.loop-k.k < length c.args.process.now.operations = omega (arith, c.loop-k-test.true, ap length c.as_slice-ops.ensures) in
    let here : c.index-ops-k.result ≡ get_or c.args.process.now.operations c.loop-k.k c.index-ops-k.result = c.index-ops-k.is ∙ ap (λ l. get_or l c.loop-k.k c.index-ops-k.result) c.as_slice-ops.ensures in
    pushed_op c.args.process.now c.loop-k.k c.index-ops-k.result c.args.operations.now.items c.loop-k.operations.items c.push.new.self.items within here c.loop-k.invariant c.in_ok-push.ensures.items

pub returns : goal.returns
returns c = c.loop-k.invariant ∙ ap (λ l. c.args.operations.now.items ++ l) (all_ops c.args.process.now c.loop-k.k (omega (arith, c.loop-k-test.false, ap length c.as_slice-ops.ensures)))
