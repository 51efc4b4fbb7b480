use Rattle.std.proofs.Common.{◌≡◌, ◌++◌, take}
use Rattle.std.specs.List.{flat_map}
use Rattle.trace_text.specs.TraceText.{process_lines}
use Rattle.trace_text.specs.TraceWritten.{line_text}
use Rattle.trace_text.proofs.trace_writer.push_processes.Given as goal

abbrev pub invariant-loop-process : goal.invariant-loop-process
invariant-loop-process l = l.text.items ≡ l.initial.text.items ++ flat_map line_text (flat_map process_lines (take l.process-index l.processes))
