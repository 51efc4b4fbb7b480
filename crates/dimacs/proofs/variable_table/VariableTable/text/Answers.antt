use Rattle.std.proofs.Common.{◌≡◌, ◌∙◌, length, map, ap, sym}
use Rattle.std.specs.List.{range_with_len}
use Rattle.dimacs.specs.CnfText.{variable_text}
use Rattle.dimacs.proofs.VariableLemmas.{text_at}
use Rattle.dimacs.proofs.variable_table.VariableTable.text.Goals as goal

pub returns : goal.returns
returns c =
    let texts : c.deref.result.now ≡ map variable_text (range_with_len 0 (length c.deref.result.now)) =
    c.deref.ensures.value ∙ c.self.invariant ∙ ap (λ l. map variable_text (range_with_len 0 (length l))) (sym c.deref.ensures.value) in
    text_at c.get.result c.deref.result.now c.args.variable texts c.get.ensures.lookup
