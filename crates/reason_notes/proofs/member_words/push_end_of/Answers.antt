use Rattle.std.specs.Prelude.{codes}
use Rattle.reason_notes.proofs.AppendLemmas.{two}
use Rattle.reason_notes.proofs.member_words.push_end_of.Goals as goal

pub returns : goal.returns
returns c = two c.args.text.now.items (codes "; the end of ") c.args.location.now c.extend_from_slice.new.self.items c.extend_from_slice-2.new.self.items
    c.in_ok-extend_from_slice.ensures.items c.in_ok-extend_from_slice-2.ensures.items
