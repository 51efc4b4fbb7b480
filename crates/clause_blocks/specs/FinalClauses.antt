-- The clauses of a final value, by its place in the trace's list.
use Rattle.std.specs.Prelude.{ℕ, ℤ, List, [], slice_get}
use Rattle.std.specs.Option.{option_map_or}
use Rattle.trace_semantics.specs.Trace.{TraceValue}
use Rattle.clause_blocks.specs.Blocks.{clauses_of_final}

-- those of the k-th final value
abbrev pub clauses_at : TraceValue → ℕ → List (List ℤ)
clauses_at t k = option_map_or (clauses_of_final t k) (slice_get t.final_values k) []
