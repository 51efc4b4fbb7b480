-- Final variables: they follow the choice variables, and say which writer is the last one of a location with a final value.
use Rattle.std.specs.Prelude.{ℕ, ◌+◌, max, List, [], length, map, take, Option, Some, None, Bool, not, ◌==◌, ◌&&◌, slice_get, if◌then◌else◌}
use Rattle.std.specs.List.{filter, enumerate_from, sum_by}
use Rattle.std.specs.Option.{option_and_then, option_map_or}
use Rattle.trace_semantics.specs.Judgement.{is_held}
use Rattle.trace_semantics.specs.Trace.{TraceValue, value_of, operation_count}
use Rattle.var_layout.specs.declared.candidate.FinalChoice.{FinalChoice}
use Rattle.var_layout.specs.ChoiceVariables.{all_choices}
use Rattle.var_layout.specs.Numbers.{left_at, writers}
use Rattle.var_layout.specs.OrderVariables.{order_count}

-- the writers that leave a final value at its location, in order
abbrev pub final_candidates : TraceValue → List ℕ × ℕ → List ℕ
final_candidates t entry = filter (λ w. is_held (left_at t entry.0 w) entry.1) (writers t entry.0)

-- no operation writes the location, and its initial value is the final one
abbrev pub is_untouched : TraceValue → List ℕ × ℕ → Bool
is_untouched t entry = (length (writers t entry.0) == 0) && is_held (value_of t.initial entry.0) entry.1

-- how many variables a final value has: none where it is there from the start, and else one for each writer that leaves it, or a
-- void one where there is none
abbrev pub final_count : TraceValue → List ℕ × ℕ → ℕ
final_count t entry = if is_untouched t entry then 0 else max 1 (length (final_candidates t entry))

-- the first variable of the k-th final value, after those of the final values before it
abbrev pub first_final : TraceValue → ℕ → ℕ
first_final t k = order_count (operation_count t) + all_choices t + sum_by (final_count t) (take k t.final_values) + 1

-- the writers that may be the last one, with their variables, in order
abbrev pub final_choices : TraceValue → ℕ → List ℕ × ℕ → List FinalChoice
final_choices t k entry = map (λ (numbered : ℕ × ℕ). record { writer = numbered.1; variable = numbered.0 }) (enumerate_from (first_final t k) (final_candidates t entry))

-- those of the k-th final value
abbrev pub finals : TraceValue → ℕ → List FinalChoice
finals t k = option_map_or (final_choices t k) (slice_get t.final_values k) []

-- The void variable of a final value that no operation leaves and that is not there from the start: one clause says that it is true and one
-- that it is false, so the formula has no model.
abbrev pub void_of : TraceValue → ℕ → List ℕ × ℕ → Option ℕ
void_of t k entry = if not (is_untouched t entry) && (length (final_candidates t entry) == 0) then Some (first_final t k) else None

-- that of the k-th final value
abbrev pub void_final : TraceValue → ℕ → Option ℕ
void_final t k = option_and_then (void_of t k) (slice_get t.final_values k)

-- how many variables the trace has in all
abbrev pub variable_count : TraceValue → ℕ
variable_count t = order_count (operation_count t) + all_choices t + sum_by (final_count t) t.final_values
