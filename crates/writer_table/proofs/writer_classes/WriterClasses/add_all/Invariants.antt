use Rattle.std.proofs.Common.{take}
use Rattle.std.specs.List.{All}
use Rattle.writer_table.specs.WriterClasses.{HasMoreNumbers, HasNumber}
use Rattle.writer_table.proofs.writer_classes.WriterClasses.add_all.Given as goal

abbrev pub invariant-loop-op : goal.invariant-loop-op
invariant-loop-op l = HasMoreNumbers l.fn.self l.self × All (HasNumber l.self) (take l.op-index l.operations)
