use Rattle.std.proofs.Common.{arith}
use Rattle.trace_part.proofs.LatestLemmas.{none_latest, more_latest_at, all_latest}
use Rattle.trace_part.proofs.sources.latest_before.Goals as goal

pub loop-k-init : goal.loop-k-init
loop-k-init c = none_latest c.args.order.now c.args.writers.now c.args.reader c.new-names.result.items c.new-names.ensures.items

pub loop-k-preserved : goal.loop-k-preserved
loop-k-preserved c =
    more_latest_at c.args.order.now c.args.writers.now c.args.reader c.loop-k.k _ _ c.loop-k.names.items c.push_latest.new.names.items
    c.loop-k-test.true c.next_writer.ensures c.loop-k.invariant c.in_ok-push_latest.ensures

pub returns : goal.returns
returns c = all_latest c.args.order.now c.args.writers.now c.loop-k.k c.args.reader c.loop-k.names.items (omega (arith, c.loop-k.auto.k-end, c.loop-k-test.false)) c.loop-k.invariant
