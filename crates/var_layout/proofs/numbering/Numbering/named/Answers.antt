use Rattle.std.specs.Option.{option_copied}
use Rattle.var_layout.proofs.NumberingLemmas.{lent, names_there, ops_there}
use Rattle.var_layout.proofs.numbering.Numbering.named.Goals as goal

pub returns-clause-name : goal.returns-clause-name
returns-clause-name c =
    let there = lent c.self.inside.operations.items c.deref.result.now c.args.i c.get.result c.get.ensures.lookup c.deref.ensures.value in
    names_there c.self.inside.trace.value c.args.self.now c.self.inside.operations.items c.args.i (option_copied c.get.result) there c.self.invariant.1 c.self.view_is

pub returns-clause-op : goal.returns-clause-op
returns-clause-op c =
    let there = lent c.self.inside.operations.items c.deref.result.now c.args.i c.get.result c.get.ensures.lookup c.deref.ensures.value in
    ops_there c.self.inside.trace.value c.args.self.now c.self.inside.operations.items c.args.i (option_copied c.get.result) c.self.invariant.0 there c.self.invariant.1 c.self.view_is
