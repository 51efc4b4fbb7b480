use Rattle.std.proofs.Common.{rules, ◌≡◌, length, replicate, take, ap, ◌∙◌}
use Rattle.std.proofs.lemmas.List.{length-replicate}
use Rattle.reason_counting.specs.WaitingSet.{operations_of}
use Rattle.reason_counting.proofs.WaitLemmas.{members_next, members_all, no_members, no_places, first_next, first_all}
use Rattle.reason_counting.proofs.waiting.first_waiting.Goals as goal

pub loop-k-init : goal.loop-k-init
loop-k-init c =
    let items : c.in_ok-first.first.items ≡ replicate c.args.processes 0 = search rules in
    (no_places c.args.processes c.in_ok-first.first.items items, no_members c.in_ok-first.first.items, ap length items ∙ length-replicate c.args.processes 0)

pub loop-k-preserved : goal.loop-k-preserved
loop-k-preserved c =
    let waiters = c.args.waiters.now in
    let n = c.loop-k.k in (
      members_next waiters n c.index-waiters-k.result c.keep_first.new.first.items c.loop-k-test.true (c.keep_first.ensures.held (operations_of (take n waiters)) c.loop-k.invariant.0),
      first_next waiters n c.index-waiters-k.result c.keep_first.new.first.items c.loop-k-test.true (c.keep_first.ensures.first (operations_of (take n waiters)) c.loop-k.invariant.1),
      c.keep_first.ensures.long ∙ c.loop-k.invariant.2,
    )

pub returns-clause-held : goal.returns-clause-held
returns-clause-held c = members_all c.args.waiters.now c.loop-k.k c.loop-k.first.items c.loop-k-test.false c.loop-k.invariant.0

pub returns-clause-first : goal.returns-clause-first
returns-clause-first c = first_all c.args.waiters.now c.loop-k.k c.loop-k.first.items c.loop-k-test.false c.loop-k.invariant.1

pub returns-clause-long : goal.returns-clause-long
returns-clause-long c = c.loop-k.invariant.2
