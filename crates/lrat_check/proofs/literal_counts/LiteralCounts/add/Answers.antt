use Rattle.std.proofs.Common.{arith}
use Rattle.lrat_check.specs.Marks.{place_of}
use Rattle.lrat_check.proofs.Counting.CountLemmas.{raised}
use Rattle.lrat_check.proofs.literal_counts.LiteralCounts.add.Goals as goal

pub loop-literal-preserved : goal.loop-literal-preserved
loop-literal-preserved c = λ z.
    raised _ _ _ c.place_of.result c.args.clause.now c.loop-literal.literal-index c.literal-item.result z (omega arith) c.literal-item.is c.place_of.ensures (c.in_ok-raise.ensures (place_of z)) (c.loop-literal.invariant z)
