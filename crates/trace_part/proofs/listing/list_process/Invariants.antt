use Rattle.std.proofs.Common.{◌≡◌, ◌++◌, ℕ, List}
use Rattle.std.specs.List.{filter_map}
use Rattle.trace_semantics.specs.OpSet.{has}
use Rattle.trace_semantics.specs.Trace.{first_names}
use Rattle.trace_part.specs.Rows.{row_in}
use Rattle.trace_part.specs.WriterTables.{AreNumbersOwn, writers_at}
use Rattle.trace_part.proofs.listing.list_process.Given as goal

abbrev pub invariant-loop-k : goal.invariant-loop-k
invariant-loop-k l = AreNumbersOwn l.table × ((q : List ℕ) → writers_at l.table q ≡ writers_at l.initial.table q ++ filter_map (row_in l.process l.number (has l.set) q) (first_names l.process.name l.k))
