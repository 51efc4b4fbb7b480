use Rattle.std.proofs.Common.{◌≡◌, ◌-◌, ℕ, length, rules, ap, ◌∙◌, subst, arith}
use Rattle.forced_order.specs.Times.{span_in, end_of, IsLower}
use Rattle.forced_order.proofs.TimeLemmas.{ends_none, ends_more, all_ends}
use Rattle.forced_order.proofs.least_ends.LeastEnds.of_operations.Goals as goal

pub loop-i-init : goal.loop-i-init
loop-i-init c = ends_none c.args.ops.now c.in_ok-ends.ends.items (search rules)

pub loop-i-preserved : goal.loop-i-preserved
loop-i-preserved c =
    let end : c.end_of.result ≡ end_of (span_in c.args.ops.now (length c.args.ops.now - c.loop-i.i)) = c.end_of.ensures ∙ ap end_of c.span_in.ensures in
    ends_more c.args.ops.now c.loop-i.ends.items c.push.new.self.items c.loop-i.i c.loop-i.least c.lower_of-least.result c.loop-i.invariant
    (subst (λ (e : ℕ). IsLower e c.loop-i.least c.lower_of-least.result) end c.lower_of-least.ensures) c.in_ok-push.ensures.items

pub returns : goal.returns
returns c = all_ends c.args.ops.now c.loop-i.ends.items c.loop-i.i c.loop-i.least (omega (arith, c.loop-i.auto.i-end, c.loop-i-test.false)) c.loop-i.invariant
