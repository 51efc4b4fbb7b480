use Rattle.std.proofs.Common.{◌≡◌, ◌++◌, length}
use Rattle.std.specs.List.{All}
use Rattle.text_lines.specs.Words.{words_of}
use Rattle.order_clauses.specs.Numbered.{IsKnown}
use Rattle.reason_text.specs.OperationWord.{operation_words}
use Rattle.reason_text.proofs.line_words.read_operations.Given as goal

abbrev pub invariant-loop-word : goal.invariant-loop-word
invariant-loop-word l = (words_of l.line ≡ operation_words l.table.trace.now l.operations.items ++ words_of l.rest) × All (IsKnown l.table.trace.now) l.operations.items

abbrev pub decreases-loop-word : goal.decreases-loop-word
decreases-loop-word l = length l.rest
