-- What must be known of the earlier statements to judge the next one.
use Rattle.std.specs.Prelude.{◌≡◌, ◌≤◌, ◌+◌, ℕ, Bool, false, not, ◌&&◌, ◌||◌, is_some, List, [], length, map, Option, Some, None, nat_le, if◌then◌else◌}
use Rattle.std.specs.List.{filter, filter_map, list_any, list_all}
use Rattle.std.specs.Str.{bytes_eq}
use Rattle.trace_semantics.specs.declared.name_table.NameTable.{NameTable}
use Rattle.trace_text.specs.declared.seen.Seen.{Seen}
use Rattle.trace_text.specs.declared.trace_fault.TraceCause.{TraceCause}
use Rattle.trace_text.specs.declared.trace_fault.TraceCause.TheVariants.{BadName, InitTwice, FinalTwice, ProcTwice, OpOutsideProc, LateHeaderLine, TooManyProcs, TooManyOps, TooManyLocations, TooManyBefore}
use Rattle.trace_semantics.specs.declared.limits.Limits.{Limits}
use Rattle.trace_semantics.specs.Limits.{max_operations, max_locations, max_pairs}
use Rattle.trace_semantics.specs.Locations.{distinct, holds_name}
use Rattle.trace_semantics.specs.NameNumbers.{number_of}
use Rattle.trace_semantics.specs.Names.{is_name}
use Rattle.trace_text.specs.Statement.{ReadsFrom, Statement, Init, Final, Proc, Read, Write, Update, Before}
use Rattle.trace_text.specs.TraceFault.{is_proc, is_operation, is_before, is_value_line, names_of, references_of_source, location_named, repeats}

-- the table has the name
abbrev pub has : NameTable → List ℕ → Bool
has table name = is_some (number_of table name)

-- the process that a source names
abbrev pub names_of_source : ReadsFrom → List (List ℕ)
names_of_source source = map (λ (r : List ℕ × List ℕ). r.0) (references_of_source source)

-- what is wrong with the place of a statement and with its names, where a process has begun or not
abbrev pub early_fault : Bool → Statement → Option TraceCause
early_fault begun s =
    if is_value_line s && begun then Some LateHeaderLine
    else if is_operation s && not begun then Some OpOutsideProc
    else if not (list_all is_name (names_of s)) then Some BadName
    else None

-- a location is one too many
abbrev pub fault_of_location : Limits → Seen → List ℕ → Option TraceCause
fault_of_location limits seen location = if not (has seen.locations location) && nat_le (max_locations limits) seen.location_count then Some TooManyLocations else None

abbrev pub fault_of_operation : Limits → Seen → List ℕ → Option TraceCause
fault_of_operation limits seen location = if nat_le (max_operations limits) seen.operation_count then Some TooManyOps else fault_of_location limits seen location

-- what the statements before a statement make wrong with it
abbrev pub fault_behind : Limits → Seen → Statement → Option TraceCause
fault_behind limits seen (Init location value) = if has seen.initial location then Some InitTwice else fault_of_location limits seen location
fault_behind limits seen (Final location value) = if has seen.final_values location then Some FinalTwice else fault_of_location limits seen location
fault_behind limits seen (Proc name) = if has seen.processes name then Some ProcTwice else if nat_le 64 seen.process_count then Some TooManyProcs else None
fault_behind limits seen (Read location value source times) = fault_of_operation limits seen location
fault_behind limits seen (Write location value times) = fault_of_operation limits seen location
fault_behind limits seen (Update location read left source times) = fault_of_operation limits seen location
fault_behind limits seen (Before process place other other_place) = if nat_le (max_pairs limits) seen.before_count then Some TooManyBefore else None

-- the statement names this location
abbrev pub is_at : Option (List ℕ) → List ℕ → Bool
is_at None q = false
is_at (Some location) q = bytes_eq location q

-- the statement names a location that the table has not
abbrev pub is_new : NameTable → Option (List ℕ) → Bool
is_new table None = false
is_new table (Some location) = not (has table location)

-- what is kept of a location
pub record NotesLocation (limits : Limits) (old new : Seen) (location : Option (List ℕ)) : Type 0 where
  pub locations : (q : List ℕ) → has new.locations q ≡ (is_at location q || has old.locations q)
  pub location_count : new.location_count ≡ (if is_new old.locations location then old.location_count + 1 else old.location_count)
  pub few_locations : new.location_count ≤ max_locations limits

-- a statement with no fault after the others is noted
pub record Notes (limits : Limits) (old new : Seen) (s : Statement) : Type 0 where
  pub faultless : fault_behind limits old s ≡ None
  pub initial : (q : List ℕ) → has new.initial q ≡ (repeats (Init q []) s || has old.initial q)
  pub final_values : (q : List ℕ) → has new.final_values q ≡ (repeats (Final q []) s || has old.final_values q)
  pub processes : (q : List ℕ) → has new.processes q ≡ (repeats (Proc q) s || has old.processes q)
  pub location : NotesLocation limits old new (location_named s)
  pub process_count : new.process_count ≡ (if is_proc s then old.process_count + 1 else old.process_count)
  pub operation_count : new.operation_count ≡ (if is_operation s then old.operation_count + 1 else old.operation_count)
  pub before_count : new.before_count ≡ (if is_before s then old.before_count + 1 else old.before_count)
  pub few_processes : old.process_count ≤ 64 → new.process_count ≤ 64
  pub few_operations : old.operation_count ≤ max_operations limits → new.operation_count ≤ max_operations limits
  pub few_before : old.before_count ≤ max_pairs limits → new.before_count ≤ max_pairs limits

-- what is kept of these statements
pub record IsSeen (limits : Limits) (ss : List Statement) (seen : Seen) : Type 0 where
  pub initial : (q : List ℕ) → has seen.initial q ≡ list_any (repeats (Init q [])) ss
  pub final_values : (q : List ℕ) → has seen.final_values q ≡ list_any (repeats (Final q [])) ss
  pub processes : (q : List ℕ) → has seen.processes q ≡ list_any (repeats (Proc q)) ss
  pub locations : (q : List ℕ) → has seen.locations q ≡ holds_name (filter_map location_named ss) q
  pub location_count : seen.location_count ≡ length (distinct (filter_map location_named ss))
  pub process_count : seen.process_count ≡ length (filter is_proc ss)
  pub operation_count : seen.operation_count ≡ length (filter is_operation ss)
  pub before_count : seen.before_count ≡ length (filter is_before ss)
  pub few_locations : seen.location_count ≤ max_locations limits
  pub few_processes : seen.process_count ≤ 64
  pub few_operations : seen.operation_count ≤ max_operations limits
  pub few_before : seen.before_count ≤ max_pairs limits
