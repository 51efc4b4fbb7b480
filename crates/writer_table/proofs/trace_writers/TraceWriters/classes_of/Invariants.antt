use Rattle.std.proofs.Common.{◌≡◌, take}
use Rattle.std.specs.List.{All}
use Rattle.writer_table.specs.WriterClasses.{AreNumbersApart, HasNumber}
use Rattle.writer_table.proofs.trace_writers.TraceWriters.classes_of.Given as goal

abbrev pub invariant-loop-process : goal.invariant-loop-process
invariant-loop-process l = (l.classes.by_value ≡ l.by_value) × AreNumbersApart l.classes × All (λ process. All (HasNumber l.classes) process.operations) (take l.process-index l.processes)
