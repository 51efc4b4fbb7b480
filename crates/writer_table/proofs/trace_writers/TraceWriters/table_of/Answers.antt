use Rattle.std.proofs.Common.{List, map, length, ap, sym, ◌∙◌, subst}
use Rattle.std.specs.Prelude.{Option, ℕ}
use Rattle.trace_semantics.specs.declared.trace.Process.{Process}
use Rattle.writer_table.specs.PlaceTable.{HasFirst}
use Rattle.writer_table.specs.WriterClasses.{class_left}
use Rattle.writer_table.proofs.WriterLemmas.{holds_next}
use Rattle.writer_table.proofs.trace_writers.TraceWriters.table_of.Goals as goal

pub loop-q-preserved : goal.loop-q-preserved
loop-q-preserved c =
    let p = c.index-processes-q.result in
    let same = c.as_slice-in-loop-q.ensures.value ∙ c.in_ok-left.ensures ∙ ap (map (class_left c.args.classes.now)) c.as_slice.ensures ∙ ap (λ (x : Process). map (class_left c.args.classes.now) x.operations) (sym c.index-processes-q.is) in
    holds_next c.args.processes.now c.args.classes.now c.loop-q.table c.add_classes.new.table c.loop-q.q p c.loop-q.invariant c.loop-q-test.true (sym c.index-processes-q.is)
    (subst (λ (l : List (Option ℕ)). HasFirst c.loop-q.table c.add_classes.new.table c.loop-q.q l (length l)) same (subst (λ n. HasFirst c.loop-q.table c.add_classes.new.table n c.as_slice-in-loop-q.result.now (length c.as_slice-in-loop-q.result.now)) c.in_ok-narrow.ensures c.in_ok-add_classes.ensures))
