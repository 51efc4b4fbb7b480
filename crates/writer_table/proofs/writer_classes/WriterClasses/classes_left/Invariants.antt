use Rattle.std.proofs.Common.{◌≡◌, map, take}
use Rattle.writer_table.specs.WriterClasses.{class_left}
use Rattle.writer_table.proofs.writer_classes.WriterClasses.classes_left.Given as goal

abbrev pub invariant-loop-op : goal.invariant-loop-op
invariant-loop-op l = l.classes.items ≡ map (class_left l.self) (take l.op-index l.operations)
