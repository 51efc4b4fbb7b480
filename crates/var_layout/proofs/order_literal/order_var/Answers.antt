use Rattle.std.proofs.Common.{arith}
use Rattle.var_layout.proofs.OrderLemmas.{order_last, order_small}
use Rattle.var_layout.proofs.order_literal.order_var.Goals as goal

pub returns-clause-last : goal.returns-clause-last
returns-clause-last c = order_last c.args.count c.args.i c.args.j c.requires.apart c.requires.within

pub returns-clause-small : goal.returns-clause-small
returns-clause-small c =
    let last = order_last c.args.count c.args.i c.args.j c.requires.apart c.requires.within in
    let small = order_small c.args.count c.requires.few in
    omega (arith, last, small)
