-- A trace (reads and writes: Gibbons and Korach, 1997), and which operation a name names.
use Rattle.std.specs.Prelude.{◌≡◌, ◌≢◌, ◌≤◌, ◌^◌, ◌&&◌, ⊤, true, nat_le, nat_lt, ℕ, zero, suc, List, ◌++◌, length, map, Option, Some, None, IsSome, Bool}
use Rattle.std.specs.List.{slice_get, find, flat_map, list_all, sum_by, range_with_len, All, AllPairs}
use Rattle.std.specs.Cmp.Lexicographic.{slice_cmp}
use Rattle.std.specs.declared.cmp.Ordering.TheVariants.{Less}
use Rattle.std.specs.Ordering.{nat_cmp}
use Rattle.std.specs.Option.{option_and_then, option_map}
use Rattle.std.specs.Str.{bytes_eq}
use Rattle.trace_semantics.specs.declared.operation.Op.{Op}
use Rattle.trace_semantics.specs.declared.operation.Op.TheVariants.{Read, Write, Update}
use Rattle.trace_semantics.specs.declared.operation.OpName.{OpName}
use Rattle.trace_semantics.specs.declared.operation.Origin.{Origin}
use Rattle.trace_semantics.specs.declared.operation.Origin.TheVariants.{Any, Initial, Operation}
use Rattle.trace_semantics.specs.declared.operation.Span.{Span}
use Rattle.trace_semantics.specs.declared.trace.Process.{Process}
use Rattle.trace_semantics.specs.declared.limits.Limits.TheVariants.{Large}
use Rattle.trace_semantics.specs.Limits.{max_operations, max_locations, max_pairs}
use Rattle.trace_semantics.specs.Locations.{distinct}
use Rattle.trace_semantics.specs.Names.{is_name}
use Rattle.trace_semantics.specs.Operation.{location_of, origin_of, span_of}
use Rattle.trace_semantics.specs.PairOrder.{ArePairsRising}

-- processes in order; initial and final values by location; pairs of which the first stands before the second
pub record TraceValue : Type 0 where
  pub processes : List Process
  pub initial : List (List ℕ × ℕ)
  pub final_values : List (List ℕ × ℕ)
  pub before : List (OpName × OpName)

-- the element at a place, counted from 1
abbrev pub at_place : {X : Type 0} → List X → ℕ → Option X
at_place xs zero = None
at_place xs (suc k) = slice_get xs k

-- the process of this name
abbrev pub process_named : TraceValue → List ℕ → Option Process
process_named t name = find (λ p. bytes_eq p.name name) t.processes

-- the operation that a name names
abbrev pub operation_at : TraceValue → OpName → Option Op
operation_at t n = option_and_then (λ p. at_place p.operations n.place) (process_named t n.process)

-- the names of the first n operations of a process
abbrev pub first_names : List ℕ → ℕ → List OpName
first_names process n = map (λ k. record { process = process; place = k }) (range_with_len 1 n)

-- the names of all operations, by process and then place
abbrev pub operation_names : TraceValue → List OpName
operation_names t = flat_map (λ p. first_names p.name (length p.operations)) t.processes

-- how many operations a trace has
abbrev pub operation_count : TraceValue → ℕ
operation_count t = sum_by (λ (p : Process). length p.operations) t.processes

-- what a list of locations and values gives a location
abbrev pub value_of : List (List ℕ × ℕ) → List ℕ → Option ℕ
value_of values location = option_map (λ entry. entry.1) (find (λ entry. bytes_eq entry.0 location) values)

-- no location twice
abbrev pub IsOneEach : List (List ℕ × ℕ) → Type 0
IsOneEach values = AllPairs (λ (x y : List ℕ × ℕ). x.0 ≢ y.0) values

-- each location before those above it, in the order of bytes
abbrev pub IsRising : List (List ℕ × ℕ) → Type 0
IsRising values = AllPairs (λ (x y : List ℕ × ℕ). slice_cmp nat_cmp x.0 y.0 ≡ Less) values

-- what is said of where a value comes from names no operation, or one of the trace
abbrev pub IsKnownOrigin : TraceValue → Origin → Type 0
IsKnownOrigin t Any = ⊤
IsKnownOrigin t Initial = ⊤
IsKnownOrigin t (Operation n) = IsSome (operation_at t n)

-- an operation does not end before it starts
abbrev pub IsSpan : Option Span → Type 0
IsSpan None = ⊤
IsSpan (Some span) = span.start ≤ span.end

-- a location, and a value that a text can write
abbrev pub is_written_value : List ℕ × ℕ → Bool
is_written_value entry = is_name entry.0 && nat_lt entry.1 (2 ^ 64)

-- the name of an operation that a text can write
abbrev pub is_written_name : OpName → Bool
is_written_name n = is_name n.process && (nat_le 1 n.place && nat_le n.place 4294967295)

abbrev pub is_written_origin : Origin → Bool
is_written_origin Any = true
is_written_origin Initial = true
is_written_origin (Operation n) = is_written_name n

-- times that a text can write
abbrev pub is_written_span : Option Span → Bool
is_written_span None = true
is_written_span (Some span) = nat_lt span.start (2 ^ 64) && nat_lt span.end (2 ^ 64)

abbrev pub is_written_op : Op → Bool
is_written_op (Read location value origin span) = is_name location && (nat_lt value (2 ^ 64) && (is_written_origin origin && is_written_span span))
is_written_op (Write location value span) = is_name location && (nat_lt value (2 ^ 64) && is_written_span span)
is_written_op (Update location read left origin span) = is_name location && (nat_lt read (2 ^ 64) && (nat_lt left (2 ^ 64) && (is_written_origin origin && is_written_span span)))

abbrev pub is_written_process : Process → Bool
is_written_process p = is_name p.name && list_all is_written_op p.operations

abbrev pub is_written_pair : OpName × OpName → Bool
is_written_pair pair = is_written_name pair.0 && is_written_name pair.1

-- names are names, values and times are below 2^64, and places are 1 to 4294967295
pub record IsWritten (t : TraceValue) : Type 0 where
  pub processes : list_all is_written_process t.processes ≡ true
  pub initial : list_all is_written_value t.initial ≡ true
  pub final_values : list_all is_written_value t.final_values ≡ true
  pub before : list_all is_written_pair t.before ≡ true

-- the locations that are named, each as often as it is
abbrev pub locations_of : TraceValue → List (List ℕ)
locations_of t = map (λ (entry : List ℕ × ℕ). entry.0) t.initial ++ (map (λ (entry : List ℕ × ℕ). entry.0) t.final_values ++ flat_map (λ (p : Process). map location_of p.operations) t.processes)

-- how many locations are named
abbrev pub location_count : TraceValue → ℕ
location_count t = length (distinct (locations_of t))

-- what each trace keeps; that no location stands twice follows from the order of the values
pub record IsTrace (t : TraceValue) : Type 0 where
  pub distinct : AllPairs (λ (p q : Process). p.name ≢ q.name) t.processes
  pub few_processes : length t.processes ≤ 64
  pub few_operations : operation_count t ≤ max_operations Large
  pub initial : IsOneEach t.initial
  pub final_values : IsOneEach t.final_values
  pub few_pairs : length t.before ≤ max_pairs Large
  pub known : All (λ (pair : OpName × OpName). IsSome (operation_at t pair.0) × IsSome (operation_at t pair.1)) t.before
  pub written : IsWritten t
  pub initial_order : IsRising t.initial
  pub final_order : IsRising t.final_values
  pub before_apart : All (λ (pair : OpName × OpName). pair.0 ≢ pair.1) t.before
  pub origins : All (λ (p : Process). All (λ (op : Op). IsKnownOrigin t (origin_of op)) p.operations) t.processes
  pub spans : All (λ (p : Process). All (λ (op : Op). IsSpan (span_of op)) p.operations) t.processes
  pub before_order : ArePairsRising t.processes t.before
  pub few_locations : location_count t ≤ max_locations Large
