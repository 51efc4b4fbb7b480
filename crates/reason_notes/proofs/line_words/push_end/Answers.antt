use Rattle.std.proofs.Common.{ℕ, ◌≡◌, ◌++◌, subst, sym}
use Rattle.std.specs.Prelude.{codes, decimal, Option}
use Rattle.reason_notes.specs.Words.{end_text}
use Rattle.reason_notes.proofs.AppendLemmas.{four}
use Rattle.reason_notes.proofs.line_words.push_end.Goals as goal

pub returns : goal.returns
returns c = subst (λ (o : Option ℕ). c.push_number.new.text.items ≡ c.args.text.now.items ++ end_text c.args.location.now o) (sym c.in-Some.is)
    (four c.args.text.now.items (codes "the final value of ") c.args.location.now (codes " is ") (decimal c.in-Some.value)
    c.extend_from_slice-2.new.self.items c.extend_from_slice-3.new.self.items c.extend_from_slice-4.new.self.items c.push_number.new.text.items
    c.in_ok-extend_from_slice-3.ensures.items c.in_ok-extend_from_slice-4.ensures.items c.in_ok-extend_from_slice-5.ensures.items c.in_ok-push_number.ensures)
