-- Some operations of a trace, with what is known of the trace.
use Rattle.std.specs.Prelude.{ℕ, List, Option, Bool}
use Rattle.trace_semantics.specs.declared.operation.Op.{Op}
use Rattle.trace_semantics.specs.declared.operation.OpName.{OpName}
use Rattle.forced_order.specs.Order.{IsClosedForward}
use Rattle.forced_order.specs.Rows.{ordered_by}
use Rattle.part_law.specs.Part.{stays}
use Rattle.trace_part.specs.declared.selection.Selection.{Selection}
use Rattle.trace_semantics.specs.OpSet.{has}
use Rattle.trace_part.specs.Latest.{IsForwardAmong}
use Rattle.trace_part.specs.Rows.{rows_of}
use Rattle.trace_part.specs.WriterTables.{IsTable}

-- the order of the operations that is known
abbrev pub ordered_in : Selection → OpName → OpName → Bool
ordered_in s = ordered_by s.trace.now s.order

-- the selected operations
abbrev pub chosen_in : Selection → OpName → Bool
chosen_in s = has s.set

-- what stays of the operations in the part
abbrev pub stays_in : Selection → OpName → Option Op
stays_in s = stays s.trace.now (ordered_in s) (chosen_in s)

-- the writers of each location are listed, and what stands before an operation stands before the later ones of its process, also among the
-- writers of a location
pub record IsSelection (s : Selection) : Type 0 where
  pub table : IsTable s.trace.now (has s.set) s.writers
  pub closed : IsClosedForward s.trace.now (ordered_in s)
  pub forward : (location : List ℕ) → IsForwardAmong s.order (rows_of s.trace.now (has s.set) location)
