-- What has been gathered of a trace.
use Rattle.std.specs.Prelude.{◌≡◌, ℕ, Bool, true, false, ◌||◌, is_some, List, [], ◌∷◌, ◌++◌, map, Option, Some, None}
use Rattle.std.specs.Cmp.Lexicographic.{slice_cmp}
use Rattle.std.specs.List.{filter, flat_map}
use Rattle.std.specs.List.Sorted.{IsPermutation, IsSortedBy}
use Rattle.std.specs.Ordering.{is_lt, nat_cmp}
use Rattle.trace_text.specs.declared.entry.Entry.{Entry}
use Rattle.trace_text.specs.declared.entry.Entry.TheVariants.{Initial, Final as FinalEntry, Process as ProcessEntry, Operation, Before as BeforeEntry}
use Rattle.trace_text.specs.declared.trace_builder.OpenProcess.{OpenProcess}
use Rattle.trace_text.specs.declared.trace_builder.TraceBuilder.{TraceBuilder}
use Rattle.trace_semantics.specs.declared.operation.Op.{Op}
use Rattle.trace_semantics.specs.declared.operation.OpName.{OpName}
use Rattle.trace_semantics.specs.declared.trace.Process.{Process}
use Rattle.trace_text.specs.Entry.{op_statement, init_statement, final_statement, before_statement}
use Rattle.trace_semantics.specs.PairOrder.{ArrangesPairs}
use Rattle.trace_text.specs.Statement.{Statement, Init, Final, Proc}
use Rattle.trace_semantics.specs.Trace.{TraceValue}
use Rattle.trace_text.specs.TraceFault.{is_proc, is_operation, is_before}

-- the process whose lines are being read
abbrev pub open_process : Option OpenProcess → List Process
open_process None = []
open_process (Some p) = record { name = p.name; operations = p.ops.items } ∷ []

-- the processes so far, with the operations so far
abbrev pub processes_of : TraceBuilder → List Process
processes_of g = g.closed.items ++ open_process g.last

-- what is gathered, as a trace
abbrev pub trace_of : TraceBuilder → TraceValue
trace_of g = record { processes = processes_of g; initial = g.initial.items; final_values = g.final_values.items; before = g.before.items }

-- the processes with one more operation of the last
abbrev pub with_operation : List Process → Op → List Process
with_operation [] op = []
with_operation (p ∷ []) op = record p { operations = p.operations ++ op ∷ [] } ∷ []
with_operation (p ∷ q ∷ ps) op = p ∷ with_operation (q ∷ ps) op

-- each part with what an entry adds to it
abbrev pub processes_with : List Process → Entry → List Process
processes_with ps (Initial location value) = ps
processes_with ps (FinalEntry location value) = ps
processes_with ps (ProcessEntry name) = ps ++ record { name = name; operations = [] } ∷ []
processes_with ps (Operation op) = with_operation ps op
processes_with ps (BeforeEntry first second) = ps

abbrev pub initial_with : List (List ℕ × ℕ) → Entry → List (List ℕ × ℕ)
initial_with values (Initial location value) = values ++ (location, value) ∷ []
initial_with values entry = values

abbrev pub final_with : List (List ℕ × ℕ) → Entry → List (List ℕ × ℕ)
final_with values (FinalEntry location value) = values ++ (location, value) ∷ []
final_with values entry = values

abbrev pub before_with : List (OpName × OpName) → Entry → List (OpName × OpName)
before_with pairs (BeforeEntry first second) = pairs ++ (first, second) ∷ []
before_with pairs entry = pairs

abbrev pub is_process_entry : Entry → Bool
is_process_entry (ProcessEntry name) = true
is_process_entry entry = false

-- an entry is added
pub record Adds (old new : TraceBuilder) (entry : Entry) : Type 0 where
  pub processes : processes_of new ≡ processes_with (processes_of old) entry
  pub initial : new.initial.items ≡ initial_with old.initial.items entry
  pub final_values : new.final_values.items ≡ final_with old.final_values.items entry
  pub before : new.before.items ≡ before_with old.before.items entry
  pub begun : is_some new.last ≡ (is_process_entry entry || is_some old.last)

-- kinds of statements
abbrev pub is_init : Statement → Bool
is_init (Init location value) = true
is_init s = false

abbrev pub is_final : Statement → Bool
is_final (Final location value) = true
is_final s = false

abbrev pub is_of_process : Statement → Bool
is_of_process s = is_proc s || is_operation s

-- what the lines of a process say
abbrev pub process_statements : Process → List Statement
process_statements p = Proc p.name ∷ map op_statement p.operations

-- what is gathered is what the statements say
pub record IsGathered (ss : List Statement) (g : TraceBuilder) : Type 0 where
  pub processes : filter is_of_process ss ≡ flat_map process_statements (processes_of g)
  pub initial : filter is_init ss ≡ map init_statement g.initial.items
  pub final_values : filter is_final ss ≡ map final_statement g.final_values.items
  pub before : filter is_before ss ≡ map before_statement g.before.items

-- the same trace, with its values in the byte order of their locations and its pairs in order, each once
pub record IsArranged (old new : TraceValue) : Type 0 where
  pub processes : new.processes ≡ old.processes
  pub initial : IsPermutation old.initial new.initial
  pub initial_sorted : IsSortedBy (λ (x y : List ℕ × ℕ). is_lt (slice_cmp nat_cmp x.0 y.0)) new.initial
  pub final_values : IsPermutation old.final_values new.final_values
  pub final_sorted : IsSortedBy (λ (x y : List ℕ × ℕ). is_lt (slice_cmp nat_cmp x.0 y.0)) new.final_values
  pub before : ArrangesPairs new.processes old.before new.before
