use Rattle.writer_table.specs.Writers.{HoldsFirst}
use Rattle.writer_table.proofs.trace_writers.TraceWriters.table_of.Given as goal

abbrev pub invariant-loop-q : goal.invariant-loop-q
invariant-loop-q l = HoldsFirst l.processes l.classes l.table l.q
