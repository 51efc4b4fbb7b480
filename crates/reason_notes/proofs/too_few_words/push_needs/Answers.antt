use Rattle.std.specs.Prelude.{codes}
use Rattle.reason_notes.specs.Words.{counted_text, own_text, text_if}
use Rattle.reason_notes.proofs.AppendLemmas.{three}
use Rattle.reason_notes.proofs.too_few_words.push_needs.Goals as goal

pub returns : goal.returns
returns c = three c.args.text.now.items (counted_text (codes " update") (codes " updates") c.args.wanting) (text_if c.args.ends (codes " and the final value")) (own_text c.args.location.now c.args.value)
    c.push_counted.new.text.items c.push_if.new.text.items c.push_own.new.text.items
    c.in_ok-push_counted.ensures c.in_ok-push_if.ensures c.in_ok-push_own.ensures
