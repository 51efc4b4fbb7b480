use Rattle.std.proofs.Common.{◌≡◌, ◌-◌, ◌++◌, List, length, subst}
use Rattle.std.specs.List.{flat_map}
use Rattle.reason_notes.specs.Words.{left_note, line_note}
use Rattle.reason_notes.specs.declared.noted_line.NotedLine.{NotedLine}
use Rattle.reason_notes.proofs.explaining.notes_of_accepted.Goals as goal

pub returns : goal.returns
returns c = record {
  count = c.args.count;
  accepted = c.requires;
  noted = c.in_ok-noted.noted.items;
  first = c.in_ok-noted.ensures;
  said = subst (λ (l : List NotedLine). c.in_ok-notes.notes.items ≡ flat_map (line_note c.args.trace.now) l ++ left_note (c.args.count - length l)) c.as_slice.ensures.value c.in_ok-notes.ensures;
}
