-- The pairs of operations, by number, of which a trace says that the first stands before the second.
use Rattle.std.specs.Prelude.{ℕ, List, map, Option, Some, None, Bool, false, not, ◌==◌, ◌&&◌, ◌||◌, nat_lt}
use Rattle.std.specs.List.{filter, flat_map, list_any}
use Rattle.std.specs.Option.{option_and_then}
use Rattle.std.specs.Str.{bytes_eq}
use Rattle.trace_semantics.specs.declared.operation.OpName.{OpName}
use Rattle.trace_semantics.specs.declared.operation.Span.{Span}
use Rattle.trace_semantics.specs.KnownOrder.{ends_before}
use Rattle.trace_semantics.specs.Operation.{span_of}
use Rattle.trace_semantics.specs.Trace.{TraceValue}
use Rattle.var_layout.specs.Numbers.{numbers, name_at, number_of, op_at}

-- the numbers of both operations of a pair
abbrev pub numbers_of : TraceValue → OpName × OpName → ℕ × ℕ
numbers_of t pair = (number_of t pair.0, number_of t pair.1)

-- the operations that a before pair puts after this one
abbrev pub paired_after : TraceValue → ℕ → List ℕ
paired_after t i = map (λ (pair : ℕ × ℕ). pair.1) (filter (λ (pair : ℕ × ℕ). pair.0 == i) (map (numbers_of t) t.before))

-- when the operation of this number was under way, if the trace says so
abbrev pub span_at_number : TraceValue → ℕ → Option Span
span_at_number t i = option_and_then span_of (op_at t i)

-- both names are of one process, and the first has the lower place
abbrev pub has_lower_place : Option OpName → Option OpName → Bool
has_lower_place None n = false
has_lower_place (Some m) None = false
has_lower_place (Some m) (Some n) = bytes_eq m.process n.process && nat_lt m.place n.place

abbrev pub in_program_order : TraceValue → ℕ → ℕ → Bool
in_program_order t i j = has_lower_place (name_at t i) (name_at t j)

-- times put i before j, and program order does not
abbrev pub is_timed : TraceValue → ℕ → ℕ → Bool
is_timed t i j = ends_before (span_at_number t i) (span_at_number t j) && not (in_program_order t i j)

-- a before pair puts i before j, or times do
abbrev pub is_said : TraceValue → ℕ → ℕ → Bool
is_said t i j = list_any (λ (k : ℕ). k == j) (paired_after t i) || is_timed t i j

abbrev pub said_after : TraceValue → ℕ → List (ℕ × ℕ)
said_after t i = map (λ (j : ℕ). (i, j)) (filter (is_said t i) (numbers t))

-- the pairs, in order and each once; without times they are the before pairs
abbrev pub known_pairs : TraceValue → List (ℕ × ℕ)
known_pairs t = flat_map (said_after t) (numbers t)
