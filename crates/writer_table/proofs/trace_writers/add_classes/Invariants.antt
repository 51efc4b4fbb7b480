use Rattle.writer_table.specs.PlaceTable.{HasFirst}
use Rattle.writer_table.proofs.trace_writers.add_classes.Given as goal

abbrev pub invariant-loop-k : goal.invariant-loop-k
invariant-loop-k l = HasFirst l.fn.table l.table l.process l.classes l.k
