use Rattle.std.proofs.Common.{◌≡◌, ◌++◌, map, take}
use Rattle.std.specs.List.{flat_map}
use Rattle.trace_text.specs.TraceText.{op_line}
use Rattle.trace_text.specs.TraceWritten.{line_text}
use Rattle.trace_text.proofs.trace_writer.push_process.Given as goal

abbrev pub invariant-loop-op : goal.invariant-loop-op
invariant-loop-op l = l.text.items ≡ l.initial.text.items ++ flat_map line_text (map op_line (take l.op-index l.op-items))
