-- The expansion of a schedule: the dropped reads are put back.
use Rattle.std.specs.Prelude.{List, [], ◌∷◌, drop, Option, Some, None}
use Rattle.std.specs.List.{flat_map, take_while}
use Rattle.trace_semantics.specs.declared.operation.OpName.{OpName}
use Rattle.trace_semantics.specs.declared.trace.Process.{Process}
use Rattle.trace_semantics.specs.Trace.{TraceValue, at_place, process_named}
use Rattle.restriction.specs.Left.{names_of}
use Rattle.reducer.specs.Reduction.{is_dropped, kept_names}

-- a name of the whole trace, and after it the names of the run of dropped reads that stands directly after it in its process
abbrev pub with_run : TraceValue → Process → Option OpName → List OpName
with_run t p None = []
with_run t p (Some n) = n ∷ take_while (is_dropped t) (drop n.place (names_of p))

-- a place in the kept trace: the first name of the operation that is kept as the one of this place, and its run
abbrev pub run_at : TraceValue → OpName → Option Process → List OpName
run_at t n None = []
run_at t n (Some p) = with_run t p (at_place (kept_names t p) n.place)

-- a name of the kept trace becomes its first name and the run after it
abbrev pub expanded : TraceValue → OpName → List OpName
expanded t n = run_at t n (process_named t n.process)

-- a schedule of the kept trace, with the dropped reads put back
abbrev pub expansion : TraceValue → List OpName → List OpName
expansion t names = flat_map (expanded t) names
