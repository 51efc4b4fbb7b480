use Rattle.std.proofs.Common.{◌∙◌, ◌+◌, length, map, ap, sym}
use Rattle.std.specs.List.{range_with_len}
use Rattle.std.proofs.lemmas.List.FromFn.{length-map-range_with_len}
use Rattle.dimacs.specs.CnfText.{variable_text}
use Rattle.dimacs.proofs.variable_table.VariableTable.of.Goals as goal

pub invariant_of-result : goal.invariant_of-result
invariant_of-result c =
    let texts = c.in_ok-variable_texts.ensures in
    texts ∙ ap (λ n. map variable_text (range_with_len 0 n)) (sym (ap length texts ∙ length-map-range_with_len variable_text 0 (c.min-count.result + 1)))
