use Rattle.std.proofs.Common.{arith}
use Rattle.lrat_check.proofs.Justifying.RatLemmas.{assumed_more}
use Rattle.lrat_check.proofs.rat.assume_others.Goals as goal

pub loop-literal-preserved : goal.loop-literal-preserved
loop-literal-preserved c =
    assumed_more c.loop-literal.trues c.assume_other.new.trues c.args.pivot c.args.clause.now c.loop-literal.literal-index c.literal-item.result c.args.trues.now (omega arith) c.literal-item.is c.loop-literal.invariant c.in_ok-assume_other.ensures
