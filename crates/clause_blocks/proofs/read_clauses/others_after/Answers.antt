use Rattle.std.proofs.Common.{sym}
use Rattle.clause_blocks.proofs.ClauseList.ReadLemmas.{others_within}
use Rattle.clause_blocks.proofs.read_clauses.others_after.Goals as goal

pub order_lit-requires : goal.order_lit-requires
order_lit-requires c =
    let other = others_within c.args.layout.now c.args.r c.other_writers-others.result.now c.other_writers-others.ensures c.loop-v.v-index 0 c.loop-v-test.true in
    record { apart = λ e. other.1 (sym e); first = c.requires; second = other.0 }
