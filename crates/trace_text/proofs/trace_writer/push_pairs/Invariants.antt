use Rattle.std.proofs.Common.{◌≡◌, ◌++◌, map, take}
use Rattle.std.specs.List.{flat_map}
use Rattle.trace_text.specs.TraceText.{before_line}
use Rattle.trace_text.specs.TraceWritten.{line_text}
use Rattle.trace_text.proofs.trace_writer.push_pairs.Given as goal

abbrev pub invariant-loop-pair : goal.invariant-loop-pair
invariant-loop-pair l = l.text.items ≡ l.initial.text.items ++ flat_map line_text (map before_line (take l.pair-index l.pairs))
