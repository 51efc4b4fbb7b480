-- What an entry of a trace says, with its numbers in decimal.
use Rattle.std.specs.Prelude.{◌^◌, nat_le, nat_lt, ℕ, Bool, true, false, ◌&&◌, List, Option, Some, None, if◌then◌else◌}
use Rattle.std.specs.Fmt.{decimal}
use Rattle.std.specs.List.{list_all}
use Rattle.trace_text.specs.declared.entry.Entry.{Entry}
use Rattle.trace_text.specs.declared.entry.Entry.TheVariants.{Initial as InitialEntry, Final as FinalEntry, Process as ProcessEntry, Operation as OperationEntry, Before as BeforeEntry}
use Rattle.trace_semantics.specs.declared.limits.Limits.{Limits}
use Rattle.trace_semantics.specs.declared.operation.Op.{Op}
use Rattle.trace_semantics.specs.declared.operation.Op.TheVariants.{Read as ReadOp, Write as WriteOp, Update as UpdateOp}
use Rattle.trace_semantics.specs.declared.operation.OpName.{OpName}
use Rattle.trace_semantics.specs.declared.operation.Origin.{Origin}
use Rattle.trace_semantics.specs.declared.operation.Origin.TheVariants.{Any, Initial, Operation}
use Rattle.trace_semantics.specs.declared.operation.Span.{Span}
use Rattle.trace_semantics.specs.Operation.{span_of}
use Rattle.trace_text.specs.declared.trace_fault.TraceCause.{TraceCause}
use Rattle.trace_text.specs.declared.trace_fault.TraceCause.TheVariants.{BadNumber}
use Rattle.trace_text.specs.Statement.{ReadsFrom, Unsaid, FromInit, FromOp, TimesSaid, Untimed, At, Statement, Init, Final, Proc, Read, Write, Update, Before}
use Rattle.trace_text.specs.TraceFault.{is_value, is_place, values_of, references_of, references_of_source, time_words}

abbrev pub source_of : Origin → ReadsFrom
source_of Any = Unsaid
source_of Initial = FromInit
source_of (Operation n) = FromOp n.process (decimal n.place)

abbrev pub times_said : Option Span → TimesSaid
times_said None = Untimed
times_said (Some span) = At (decimal span.start) (decimal span.end)

abbrev pub op_statement : Op → Statement
op_statement (ReadOp location value origin span) = Read location (decimal value) (source_of origin) (times_said span)
op_statement (WriteOp location value span) = Write location (decimal value) (times_said span)
op_statement (UpdateOp location read left origin span) = Update location (decimal read) (decimal left) (source_of origin) (times_said span)

abbrev pub init_statement : List ℕ × ℕ → Statement
init_statement entry = Init entry.0 (decimal entry.1)

abbrev pub final_statement : List ℕ × ℕ → Statement
final_statement entry = Final entry.0 (decimal entry.1)

abbrev pub before_statement : OpName × OpName → Statement
before_statement pair = Before pair.0.process (decimal pair.0.place) pair.1.process (decimal pair.1.place)

abbrev pub statement_for : Entry → Statement
statement_for (InitialEntry location value) = init_statement (location, value)
statement_for (FinalEntry location value) = final_statement (location, value)
statement_for (ProcessEntry name) = Proc name
statement_for (OperationEntry op) = op_statement op
statement_for (BeforeEntry first second) = before_statement (first, second)

-- the place that a source names is one
abbrev pub has_place : Limits → ReadsFrom → Bool
has_place limits source = list_all (λ (r : List ℕ × List ℕ). is_place limits r.1) (references_of_source source)

-- the words that should be times are numbers
abbrev pub has_time_numbers : TimesSaid → Bool
has_time_numbers times = list_all is_value (time_words times)

-- the words that should be numbers are numbers
abbrev pub has_numbers : Limits → Statement → Bool
has_numbers limits s = list_all is_value (values_of s) && list_all (λ (r : List ℕ × List ℕ). is_place limits r.1) (references_of s)

-- what is wrong where the numbers are fine or not
abbrev pub number_fault : Bool → Option TraceCause
number_fault fine = if fine then None else Some BadNumber

-- the numbers are in their ranges
abbrev pub fits_value : ℕ → Bool
fits_value value = nat_lt value (2 ^ 64)

abbrev pub fits_place : ℕ → Bool
fits_place place = nat_le 1 place && nat_le place 4294967295

abbrev pub origin_fits : Origin → Bool
origin_fits Any = true
origin_fits Initial = true
origin_fits (Operation n) = fits_place n.place

abbrev pub span_fits : Option Span → Bool
span_fits None = true
span_fits (Some span) = fits_value span.start && fits_value span.end

abbrev pub op_fits : Op → Bool
op_fits (ReadOp location value origin span) = fits_value value && (origin_fits origin && span_fits span)
op_fits (WriteOp location value span) = fits_value value && span_fits span
op_fits (UpdateOp location read left origin span) = fits_value read && (fits_value left && (origin_fits origin && span_fits span))

abbrev pub entry_fits : Entry → Bool
entry_fits (InitialEntry location value) = fits_value value
entry_fits (FinalEntry location value) = fits_value value
entry_fits (ProcessEntry name) = true
entry_fits (OperationEntry op) = op_fits op
entry_fits (BeforeEntry first second) = fits_place first.place && fits_place second.place

-- the operation ends before it starts
abbrev pub is_turned_span : Option Span → Bool
is_turned_span None = false
is_turned_span (Some span) = nat_lt span.end span.start

abbrev pub is_turned : Entry → Bool
is_turned (InitialEntry location value) = false
is_turned (FinalEntry location value) = false
is_turned (ProcessEntry name) = false
is_turned (OperationEntry op) = is_turned_span (span_of op)
is_turned (BeforeEntry first second) = false
