use Rattle.trace_semantics.specs.OpSet.{has}
use Rattle.trace_part.specs.WriterTables.{writers_at}
use Rattle.trace_part.proofs.RowLemmas.{more_rows}
use Rattle.trace_part.proofs.listing.writer_table.Goals as goal

pub loop-k-preserved : goal.loop-k-preserved
loop-k-preserved c = (
  c.in_ok-list_process.ensures.own,
  λ q. more_rows c.args.trace.now c.recall_invariant.ensures (has c.args.set.now) q c.processes-processes.result.now c.processes-processes.ensures c.loop-k.k c.index-processes-k.result (writers_at c.loop-k.table q) (writers_at c.list_process.new.table q)
      c.loop-k-test.true c.index-processes-k.is (c.loop-k.invariant.1 q) (c.in_ok-list_process.ensures.rows q),
)
