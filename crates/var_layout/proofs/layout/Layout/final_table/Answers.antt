use Rattle.std.specs.Option.{option_copied}
use Rattle.var_layout.proofs.LayoutLemmas.{final_facts}
use Rattle.var_layout.proofs.NumberingLemmas.{lent}
use Rattle.var_layout.proofs.layout.Layout.final_table.Goals as goal

pub returns : goal.returns
returns c =
    let there = lent c.self.inside.final_values.items c.deref.result.now c.args.k c.get.result c.get.ensures.lookup c.deref.ensures.value in
    let known = final_facts c.self.inside.trace.value c.args.self.now c.self.inside.final_values.items c.args.k (option_copied c.get.result) there c.self.invariant.final_values c.self.view_is in
    record { writers = known.writers; choices = known.choices; void = known.void }
