use Rattle.std.proofs.Common.{◌≡◌, ◌++◌, take}
use Rattle.std.specs.List.{flat_map}
use Rattle.reason_notes.specs.Words.{other_text}
use Rattle.reason_notes.proofs.order_words.push_others.Given as goal

abbrev pub invariant-loop-order : goal.invariant-loop-order
invariant-loop-order l = l.text.items ≡ l.initial.text.items ++ flat_map (other_text l.trace) (take l.order-index l.others)
