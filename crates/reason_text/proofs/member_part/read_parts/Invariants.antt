use Rattle.std.proofs.Common.{◌≡◌, ◌++◌, length}
use Rattle.std.specs.List.{All, flat_map}
use Rattle.text_lines.specs.Words.{words_of}
use Rattle.reason_text.specs.MemberPart.{part_words, IsKnownPart}
use Rattle.reason_text.proofs.member_part.read_parts.Given as goal

abbrev pub invariant-loop-kind : goal.invariant-loop-kind
invariant-loop-kind l = (words_of l.line ≡ flat_map (part_words l.table.trace.now) l.parts.items ++ words_of l.rest) × All (IsKnownPart l.table.trace.now) l.parts.items

abbrev pub decreases-loop-kind : goal.decreases-loop-kind
decreases-loop-kind l = length l.rest
