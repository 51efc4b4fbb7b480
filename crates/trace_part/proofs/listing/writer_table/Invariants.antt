use Rattle.std.proofs.Common.{◌≡◌, ℕ, List, map, take}
use Rattle.std.specs.List.{filter, flat_map}
use Rattle.trace_semantics.specs.OpSet.{has}
use Rattle.restriction.specs.Left.{names_of}
use Rattle.part_law.specs.Part.{writes_at}
use Rattle.trace_part.specs.Rows.{row_of}
use Rattle.trace_part.specs.WriterTables.{AreNumbersOwn, writers_at}
use Rattle.trace_part.proofs.listing.writer_table.Given as goal

abbrev pub invariant-loop-k : goal.invariant-loop-k
invariant-loop-k l = AreNumbersOwn l.table × ((q : List ℕ) → writers_at l.table q ≡ map (row_of l.trace (has l.set) q) (filter (writes_at l.trace q) (flat_map names_of (take l.k l.processes))))
