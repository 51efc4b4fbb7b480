use Rattle.std.proofs.Common.{◌∙◌, ◌≡◌, ◌∷◌, ap, sym, true, rules}
use Rattle.std.specs.Int.{is_positive}
use Rattle.dimacs.specs.CnfText.{variable_text}
use Rattle.dimacs.proofs.VariableLemmas.{positive_text, opposite_text}
use Rattle.dimacs.proofs.variable_table.VariableTable.text_of.Goals as goal

pub returns-clause-itself : goal.returns-clause-itself
returns-clause-itself c =
    let sign : is_positive c.args.literal ≡ true = search rules in
    let text = ap variable_text (c.variable.ensures.number) in
    positive_text c.args.literal sign ∙ sym text ∙ sym c.in_ok-text.ensures ∙ sym c.copied.ensures

pub returns-clause-opposite : goal.returns-clause-opposite
returns-clause-opposite c =
    let sign : is_positive c.args.literal ≡ true = search rules in
    let text = ap variable_text (c.variable.ensures.number) in
    opposite_text c.args.literal sign ∙ ap (λ t. 45 ∷ t) (sym text ∙ sym c.in_ok-text.ensures ∙ sym c.copied.ensures)
