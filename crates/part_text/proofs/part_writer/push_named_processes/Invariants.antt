use Rattle.std.proofs.Common.{◌≡◌, ◌++◌, drop}
use Rattle.std.specs.List.{flat_map}
use Rattle.trace_text.specs.TraceWritten.{line_text}
use Rattle.part_text.specs.PartText.{named_processes}
use Rattle.part_text.proofs.part_writer.push_named_processes.Given as goal

abbrev pub invariant-loop-k : goal.invariant-loop-k
invariant-loop-k l = l.text.items ++ flat_map line_text (named_processes l.part.places l.k (drop l.k l.processes)) ≡ l.initial.text.items ++ flat_map line_text (named_processes l.part.places 0 l.part.trace.processes)
