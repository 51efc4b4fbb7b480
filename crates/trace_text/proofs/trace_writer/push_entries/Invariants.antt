use Rattle.std.proofs.Common.{◌≡◌, ◌++◌, map, take}
use Rattle.std.specs.List.{flat_map}
use Rattle.trace_text.specs.TraceLines.{entry_line}
use Rattle.trace_text.specs.TraceWritten.{line_text}
use Rattle.trace_text.proofs.trace_writer.push_entries.Given as goal

abbrev pub invariant-loop-entry : goal.invariant-loop-entry
invariant-loop-entry l = l.text.items ≡ l.initial.text.items ++ flat_map line_text (map (entry_line l.key) (take l.entry-index l.entries))
