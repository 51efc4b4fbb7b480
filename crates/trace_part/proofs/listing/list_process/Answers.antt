use Rattle.std.proofs.Common.{◌∙◌, ◌+◌, refl}
use Rattle.trace_semantics.specs.OpSet.{has}
use Rattle.trace_part.specs.Rows.{row_in}
use Rattle.trace_part.specs.WriterTables.{writers_at}
use Rattle.trace_part.proofs.RowLemmas.{pushed}
use Rattle.trace_part.proofs.listing.list_process.Goals as goal

pub loop-k-preserved : goal.loop-k-preserved
loop-k-preserved c = (
  c.in_ok-list_op.ensures.own,
  λ q. c.in_ok-list_op.ensures.rows q
      ∙ pushed c.args.process.now c.args.number (has c.args.set.now) q c.loop-k.k (writers_at c.args.table.now q) (writers_at c.loop-k.table q)
      (row_in c.args.process.now c.args.number (has c.args.set.now) q (record { process = c.args.process.now.name; place = c.loop-k.k + 1 })) (c.loop-k.invariant.1 q) refl,
)
