use Rattle.std.specs.Option.{option_copied}
use Rattle.var_layout.proofs.LayoutLemmas.{op_facts}
use Rattle.var_layout.proofs.NumberingLemmas.{lent}
use Rattle.var_layout.proofs.layout.Layout.op_table.Goals as goal

pub returns : goal.returns
returns c =
    let there = lent c.self.inside.operations.items c.deref.result.now c.args.i c.get.result c.get.ensures.lookup c.deref.ensures.value in
    let known = op_facts c.self.inside.trace.value c.args.self.now c.self.inside.operations.items c.args.i (option_copied c.get.result) there c.self.invariant.operations c.self.view_is in
    record { leader = known.leader; reads = known.reads; writers = known.writers; choices = known.choices; void = known.void }
