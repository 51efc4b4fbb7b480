use Rattle.std.specs.Prelude.{codes}
use Rattle.reason_notes.specs.Words.{counted_text, text_if}
use Rattle.reason_notes.proofs.AppendLemmas.{four}
use Rattle.reason_notes.proofs.too_few_words.push_gives.Goals as goal

pub returns : goal.returns
returns c = four c.args.text.now.items (codes ", and only ") (counted_text (codes " operation") (codes " operations") c.args.leaving) (text_if c.args.starts (codes " and the initial value")) (codes " can give one")
    c.extend_from_slice.new.self.items c.push_counted.new.text.items c.push_if.new.text.items c.extend_from_slice-2.new.self.items
    c.in_ok-extend_from_slice.ensures.items c.in_ok-push_counted.ensures c.in_ok-push_if.ensures c.in_ok-extend_from_slice-2.ensures.items
