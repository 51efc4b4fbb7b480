-- What is a part of a trace, and what its operations are called in the whole.
use Rattle.std.specs.Prelude.{◌≡◌, ℕ, List, map, Option, position, Bool}
use Rattle.std.specs.List.{filter, slice_get}
use Rattle.std.specs.Option.{option_and_then, option_map}
use Rattle.std.specs.Str.{bytes_eq}
use Rattle.trace_semantics.specs.declared.operation.OpName.{OpName}
use Rattle.trace_semantics.specs.declared.operation.Op.{Op}
use Rattle.trace_semantics.specs.declared.trace.Process.{Process}
use Rattle.trace_semantics.specs.Judgement.{has_come}
use Rattle.trace_semantics.specs.Trace.{TraceValue, at_place}
use Rattle.forced_order.specs.Order.{IsForcedOrder}
use Rattle.restriction.specs.Left.{is_left, names_of}
use Rattle.part_law.specs.Part.{stays, part}
use Rattle.trace_part.specs.Choice.{IsChoice}

-- a part, and for each process the places in the whole of the operations that remain of it
pub record PartValue : Type 0 where
  pub trace : TraceValue
  pub places : List (List ℕ)

-- the places of the operations that remain of a process
abbrev pub left_places : (OpName → Option Op) → Process → List ℕ
left_places stays p = map (λ (n : OpName). n.place) (filter (is_left stays) (names_of p))

-- p is the part of t that these operations make up, by the forced order of t
pub record IsPart (t : TraceValue) (names : List OpName) (p : PartValue) : Type 0 where
  pub choice : IsChoice t names
  pub ordered : OpName → OpName → Bool
  pub forced : IsForcedOrder t ordered
  pub trace_is : p.trace ≡ part t ordered (has_come names)
  pub places_are : p.places ≡ map (left_places (stays t ordered (has_come names))) t.processes

-- the places of a process of this name
abbrev pub places_of : TraceValue → PartValue → List ℕ → Option (List ℕ)
places_of t p name = option_and_then (slice_get p.places) (position (λ (q : Process). bytes_eq q.name name) t.processes)

-- what an operation of the part is called in the whole
abbrev pub whole_name : TraceValue → PartValue → OpName → Option OpName
whole_name t p x = option_map (λ k. record { process = x.process; place = k }) (option_and_then (λ places. at_place places x.place) (places_of t p x.process))
