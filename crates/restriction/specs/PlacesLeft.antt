-- The places of what remains of each process.
use Rattle.std.specs.Prelude.{◌≡◌, ℕ, List, map, Option, IsSome}
use Rattle.std.specs.List.{filter}
use Rattle.trace_semantics.specs.declared.operation.Op.{Op}
use Rattle.trace_semantics.specs.declared.operation.OpName.{OpName}
use Rattle.trace_semantics.specs.declared.trace.Process.{Process}
use Rattle.trace_semantics.specs.Trace.{TraceValue, operation_at}
use Rattle.restriction.specs.Left.{is_left, names_of}

-- the places of what remains of a process
abbrev pub places_of : (OpName → Option Op) → Process → List ℕ
places_of stays p = map (λ (n : OpName). n.place) (filter (is_left stays) (names_of p))

-- these are the places of what remains of each process of a trace, and of operations of the trace alone something stays
pub record ArePlacesLeft (t : TraceValue) (stays : OpName → Option Op) (places : List (List ℕ)) : Type 0 where
  pub values : places ≡ map (places_of stays) t.processes
  pub known : (n : OpName) → IsSome (stays n) → IsSome (operation_at t n)
