use Rattle.std.proofs.Common.{◌≡◌, ◌∙◌, length, rules}
use Rattle.var_layout.proofs.LayoutLemmas.{finals_counted}
use Rattle.var_layout.proofs.layout.Layout.final_values.Goals as goal

pub returns : goal.returns
returns c =
    let long : c.len.result ≡ length c.self.inside.final_values.items = search rules in
    long ∙ finals_counted c.self.inside.trace.value c.args.self.now c.self.inside.final_values.items c.self.invariant.final_values c.self.view_is
