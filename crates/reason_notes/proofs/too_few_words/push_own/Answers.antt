use Rattle.std.specs.Prelude.{codes, decimal}
use Rattle.reason_notes.proofs.AppendLemmas.{four}
use Rattle.reason_notes.proofs.too_few_words.push_own.Goals as goal

pub returns : goal.returns
returns c = four c.args.text.now.items (codes " must have a ") (decimal c.args.value) (codes " of their own at ") c.args.location.now
    c.extend_from_slice.new.self.items c.push_number.new.text.items c.extend_from_slice-2.new.self.items c.extend_from_slice-3.new.self.items
    c.in_ok-extend_from_slice.ensures.items c.in_ok-push_number.ensures c.in_ok-extend_from_slice-2.ensures.items c.in_ok-extend_from_slice-3.ensures.items
