use Rattle.std.proofs.Common.{◌≤◌, arith}
use Rattle.forced_order.proofs.TimeLemmas.{from_start, last_by_ends}
use Rattle.forced_order.proofs.least_ends.last_of.Goals as goal

pub returns : goal.returns
returns c = λ ops least.
    (let high : c.args.span.start ≤ 18446744073709551615 = omega arith in
    last_by_ends ops c.args.ends.now least c.args.span high c.count_from-count.result c.count_from-count.ensures.bound (c.count_from-count.ensures.point (from_start ops c.args.ends.now least c.args.span.start)))
