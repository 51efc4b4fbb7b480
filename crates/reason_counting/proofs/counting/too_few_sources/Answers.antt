use Rattle.std.proofs.Common.{arith}
use Rattle.reason_counting.specs.Counts.{AreTooFew}
use Rattle.reason_counting.proofs.CountLemmas.{too_few}
use Rattle.reason_counting.proofs.counting.too_few_sources.Goals as goal

pub returns-then-sources-needs-clause-holds : goal.returns-then-sources-needs-clause-holds
returns-then-sources-needs-clause-holds c =
    let less : AreTooFew c.args.trace.now c.args.location.now c.args.value = (let needs = c.count_needs-needs.ensures in let sources = c.count_sources-sources.ensures in let fewer = c.if-sources-needs.true in omega (arith, needs, sources, fewer)) in
    too_few c.args.trace.now c.recall_invariant.ensures c.args.location.now c.args.value less
