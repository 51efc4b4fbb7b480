use Rattle.std.proofs.Common.{[], ◌∷◌, take, sym, arith}
use Rattle.reason_counting.proofs.TallyLemmas.{few_with_one, one_more}
use Rattle.reason_counting.proofs.tally.tally_of_operations.Goals as goal

pub together-tally-requires : goal.together-tally-requires
together-tally-requires c =
    let few = few_with_one c.args.location.now c.args.value c.args.operations.now c.loop-k.k c.loop-k.tally c.tally_of_one.result c.index-operations-k.result c.loop-k-test.true c.loop-k.invariant c.tally_of_one.ensures in
    record { wanting = omega (arith, few.0); leaving = omega (arith, few.1) }

pub loop-k-preserved : goal.loop-k-preserved
loop-k-preserved c =
    let ops = c.args.operations.now in
    one_more c.args.location.now c.args.value ops c.loop-k.k c.index-operations-k.result c.together-tally.result c.loop-k-test.true (sym c.index-operations-k.is)
    (c.together-tally.ensures c.args.location.now c.args.value (take c.loop-k.k ops) (c.index-operations-k.result ∷ []) c.loop-k.invariant c.tally_of_one.ensures)
