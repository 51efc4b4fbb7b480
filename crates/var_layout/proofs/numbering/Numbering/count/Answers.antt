use Rattle.std.proofs.Common.{◌≡◌, ap, ◌∙◌, length, rules}
use Rattle.trace_semantics.specs.Trace.{operation_count}
use Rattle.var_layout.proofs.NumberingLemmas.{counted}
use Rattle.var_layout.proofs.numbering.Numbering.count.Goals as goal

pub returns : goal.returns
returns c =
    let long : c.len.result ≡ length c.self.inside.operations.items = search rules in
    long ∙ ap length c.self.invariant.1 ∙ counted c.self.inside.trace.value ∙ ap operation_count c.self.view_is
