use Rattle.std.proofs.Common.{◌≡◌, ◌∙◌, length, rules}
use Rattle.var_layout.proofs.LayoutLemmas.{ops_counted}
use Rattle.var_layout.proofs.layout.Layout.operations.Goals as goal

pub returns : goal.returns
returns c =
    let long : c.len.result ≡ length c.self.inside.operations.items = search rules in
    long ∙ ops_counted c.self.inside.trace.value c.args.self.now c.self.inside.operations.items c.self.invariant.operations c.self.view_is
