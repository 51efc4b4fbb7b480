-- What tables of writers hold.
use Rattle.std.specs.Prelude.{◌≡◌, false, true}
use Rattle.trace_semantics.specs.Trace.{TraceValue}
use Rattle.writer_table.specs.Writers.{HoldsWriters}
use Rattle.reason_clauses.specs.declared.writer_tables.WriterTables.{WriterTables}

-- both hold the writers of the trace, the first by location and value, the second by location alone
pub record HoldTables (t : TraceValue) (tables : WriterTables) : Type 0 where
  pub by_value : HoldsWriters t tables.by_value
  pub by_location : HoldsWriters t tables.by_location
  pub kind : tables.by_location.classes.by_value ≡ false
  pub value_kind : tables.by_value.classes.by_value ≡ true
