use Rattle.std.proofs.Common.{length}
use Rattle.text_lines.specs.Lines.{lines_of}
use Rattle.reason_notes.specs.Noted.{NoneRefutes}
use Rattle.reason_notes.proofs.NotedLemmas.{AreNotedTo}
use Rattle.reason_notes.proofs.first_lines.first_lines.Given as goal

abbrev pub invariant-loop-line : goal.invariant-loop-line
invariant-loop-line l = AreNotedTo l.trace l.text l.most l.noted.items (lines_of l.rest) × NoneRefutes l.noted.items

abbrev pub decreases-loop-line : goal.decreases-loop-line
decreases-loop-line l = length l.rest
