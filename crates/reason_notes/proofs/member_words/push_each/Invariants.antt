use Rattle.std.proofs.Common.{◌≡◌, ◌++◌, take}
use Rattle.std.specs.List.{flat_map}
use Rattle.reason_notes.specs.Words.{member_text}
use Rattle.reason_notes.proofs.member_words.push_each.Given as goal

abbrev pub invariant-loop-part : goal.invariant-loop-part
invariant-loop-part l = l.text.items ≡ l.initial.text.items ++ flat_map (member_text l.trace) (take l.part-index l.parts)
