-- The places of the runs of dropped reads in the processes of the whole trace.
use Rattle.std.specs.Prelude.{◌≡◌, ◌+◌, ◌-◌, ℕ, List, [], ◌∷◌, ◌++◌, length, map, take, Bool, not, ◌&&◌}
use Rattle.std.specs.List.{filter}
use Rattle.trace_semantics.specs.declared.operation.OpName.{OpName}
use Rattle.trace_semantics.specs.declared.trace.Process.{Process}
use Rattle.trace_semantics.specs.Trace.{TraceValue, at_place}
use Rattle.restriction.specs.Left.{names_of}
use Rattle.trace_semantics.specs.declared.op_set.OpSet.{OpSet}
use Rattle.trace_semantics.specs.OpSet.{has}
use Rattle.reducer.specs.Reduction.{repeats, is_kept}

-- the places of the operations that pass, and then one more than the last place of the process
abbrev pub bounds_by : (OpName → Bool) → Process → List ℕ
bounds_by passes p = map (λ (n : OpName). n.place) (filter passes (names_of p)) ++ (length p.operations + 1) ∷ []

-- the places at which the runs of a process begin, and the one at which the last ends
abbrev pub bounds_of : TraceValue → Process → List ℕ
bounds_of t p = bounds_by (is_kept t) p

-- the bounds without the last
abbrev pub without_last : List ℕ → List ℕ
without_last bounds = take (length bounds - 1) bounds

-- these are the bounds of the trace's processes
abbrev pub AreBounds : TraceValue → List (List ℕ) → Type 0
AreBounds t bounds = bounds ≡ map (bounds_of t) t.processes

-- an operation of the process is kept, if the set has those that are named
abbrev pub keeps : OpSet → Process → OpName → Bool
keeps set p n = not (repeats (at_place p.operations (n.place - 1)) (at_place p.operations n.place) && not (has set n))
