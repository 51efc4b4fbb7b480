-- What the reader of traces has read so far.
use Rattle.std.specs.Prelude.{◌≡◌, ◌≢◌, true, is_some, List}
use Rattle.std.specs.List.{list_any, list_all, AllPairs}
use Rattle.trace_semantics.specs.declared.limits.Limits.{Limits}
use Rattle.trace_text.specs.declared.trace_builder.TraceBuilder.{TraceBuilder}
use Rattle.trace_semantics.specs.declared.trace.Process.{Process}
use Rattle.trace_text.specs.declared.trace_reader.TraceReader.{TraceReader}
use Rattle.trace_text.specs.Gathered.{processes_of, IsGathered}
use Rattle.trace_text.specs.Seen.{IsSeen}
use Rattle.trace_text.specs.Statement.{Statement}
use Rattle.trace_semantics.specs.Trace.{IsOneEach, is_written_process, is_written_value, is_written_pair}
use Rattle.trace_text.specs.TraceFault.{is_proc}

-- no process has the name of another, and no location two initial or two final values
pub record IsDistinct (g : TraceBuilder) : Type 0 where
  pub processes : AllPairs (λ (p q : Process). p.name ≢ q.name) (processes_of g)
  pub initial : IsOneEach g.initial.items
  pub final_values : IsOneEach g.final_values.items

-- names are names, and numbers are in their ranges
pub record IsWrittenSoFar (g : TraceBuilder) : Type 0 where
  pub processes : list_all is_written_process (processes_of g) ≡ true
  pub initial : list_all is_written_value g.initial.items ≡ true
  pub final_values : list_all is_written_value g.final_values.items ≡ true
  pub before : list_all is_written_pair g.before.items ≡ true

-- what the reader keeps of these statements, under these limits
pub record IsProgress (limits : Limits) (ss : List Statement) (reader : TraceReader) : Type 0 where
  pub seen : IsSeen limits ss reader.seen
  pub gathered : IsGathered ss reader.gathered
  pub begun : list_any is_proc ss ≡ is_some reader.gathered.last
  pub distinct : IsDistinct reader.gathered
  pub written : IsWrittenSoFar reader.gathered
