use Rattle.std.proofs.Common.{◌∙◌, ◌+◌, refl, sym}
use Rattle.std.specs.Prelude.{None}
use Rattle.std.specs.Str.{bytes_eq}
use Rattle.trace_semantics.specs.OpSet.{has}
use Rattle.trace_part.specs.WriterTables.{writers_at}
use Rattle.trace_part.proofs.WriterTableLemmas.{none_listed, op_listed, op_there}
use Rattle.trace_part.proofs.listing.list_op.Goals as goal

pub returns-in-None-clause-rows : goal.returns-in-None-clause-rows
returns-in-None-clause-rows c = λ q.
    op_listed c.args.process.now c.args.number (has c.args.set.now) (record { process = c.args.process.now.name; place = c.args.k + 1 }) c.index-as_slice-k.result
    (op_there c.args.process.now c.as_slice.result.now c.args.k c.index-as_slice-k.result c.requires.within c.as_slice.ensures c.index-as_slice-k.is)
    c.as_bytes-location.result.now (c.as_bytes-location.ensures ∙ c.location.ensures) None (sym c.in-None.is ∙ c.row_at.ensures) q (writers_at c.args.table.now q) (writers_at c.args.table.now q)
    (none_listed (bytes_eq c.as_bytes-location.result.now q) (writers_at c.args.table.now q) (writers_at c.args.table.now q) refl)
