use Rattle.std.proofs.Common.{◌≡◌, ◌++◌, length}
use Rattle.std.specs.List.{All, flat_map}
use Rattle.text_lines.specs.Words.{words_of}
use Rattle.reason_text.specs.SourcePiece.{piece_words, IsKnownPiece}
use Rattle.reason_text.proofs.source_piece.read_pieces.Given as goal

abbrev pub invariant-loop-kind : goal.invariant-loop-kind
invariant-loop-kind l = (words_of l.line ≡ flat_map (piece_words l.table.trace.now) l.pieces.items ++ words_of l.rest) × All (IsKnownPiece l.table.trace.now) l.pieces.items

abbrev pub decreases-loop-kind : goal.decreases-loop-kind
decreases-loop-kind l = length l.rest
