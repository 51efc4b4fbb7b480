-- The words that name operations in a certificate of reasons.
use Rattle.std.specs.Prelude.{ℕ, List, map}
use Rattle.trace_semantics.specs.Trace.{TraceValue}
use Rattle.schedule_text.specs.ScheduleText.{name_word}
use Rattle.order_clauses.specs.Numbered.{named}
use Rattle.writer_table.specs.declared.operation_place.OperationPlace.{OperationPlace}

-- how an operation of the trace is written: its process's name, a dot and its place
abbrev pub operation_word : TraceValue → OperationPlace → List ℕ
operation_word t n = name_word (named t n)

abbrev pub operation_words : TraceValue → List OperationPlace → List (List ℕ)
operation_words t operations = map (operation_word t) operations
