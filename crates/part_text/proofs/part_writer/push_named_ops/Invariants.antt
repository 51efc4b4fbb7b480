use Rattle.std.proofs.Common.{◌≡◌, ◌++◌, drop}
use Rattle.std.specs.List.{flat_map}
use Rattle.trace_text.specs.TraceWritten.{line_text}
use Rattle.part_text.specs.PartText.{named_ops}
use Rattle.part_text.proofs.part_writer.push_named_ops.Given as goal

abbrev pub invariant-loop-k : goal.invariant-loop-k
invariant-loop-k l = l.text.items ++ flat_map line_text (named_ops l.process l.places l.k (drop l.k l.ops)) ≡ l.initial.text.items ++ flat_map line_text (named_ops l.process l.places 0 l.ops)
