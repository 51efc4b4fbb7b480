use Rattle.std.proofs.Common.{◌≡◌, ◌++◌, take}
use Rattle.std.specs.List.{flat_map}
use Rattle.reason_notes.specs.Words.{piece_text}
use Rattle.reason_notes.proofs.piece_words.push_each.Given as goal

abbrev pub invariant-loop-piece : goal.invariant-loop-piece
invariant-loop-piece l = l.text.items ≡ l.initial.text.items ++ flat_map (piece_text l.trace) (take l.piece-index l.pieces)
