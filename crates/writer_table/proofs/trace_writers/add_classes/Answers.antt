use Rattle.std.specs.Prelude.{None}
use Rattle.std.proofs.lemmas.Option.{slice_get-get_or}
use Rattle.writer_table.proofs.TableLemmas.{first_next}
use Rattle.writer_table.proofs.trace_writers.add_classes.Goals as goal

pub loop-k-preserved : goal.loop-k-preserved
loop-k-preserved c =
    first_next c.args.table.now c.loop-k.table c.add_class.new.table c.args.process c.args.classes.now c.loop-k.k c.in_ok-place.place _ c.loop-k.invariant
    (slice_get-get_or c.args.classes.now c.loop-k.k None c.loop-k-test.true) c.in_ok-place.ensures c.in_ok-add_class.ensures
