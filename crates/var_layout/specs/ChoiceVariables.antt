-- Choice variables: they follow the order variables, and say which candidate a reading operation reads.
use Rattle.std.specs.Prelude.{ℕ, ◌+◌, max, List, length, map, Option, Some, None, is_some, ◌==◌, ◌&&◌, if◌then◌else◌}
use Rattle.std.specs.List.{enumerate_from, range_with_len, sum_by}
use Rattle.trace_semantics.specs.Trace.{TraceValue, operation_count}
use Rattle.var_layout.specs.declared.candidate.Candidate.{Candidate}
use Rattle.var_layout.specs.declared.candidate.ReadsFromChoice.{ReadsFromChoice}
use Rattle.var_layout.specs.Candidates.{candidates}
use Rattle.var_layout.specs.Numbers.{numbers, read_at}
use Rattle.var_layout.specs.OrderVariables.{order_count}

-- how many choice variables an operation has: if it reads, one for each candidate, or a void one where there is none
abbrev pub choice_count : TraceValue → ℕ → ℕ
choice_count t r = if is_some (read_at t r) then max 1 (length (candidates t r)) else 0

-- how many there are in all
abbrev pub all_choices : TraceValue → ℕ
all_choices t = sum_by (choice_count t) (numbers t)

-- the first choice variable of an operation, after those of the operations before it
abbrev pub first_choice : TraceValue → ℕ → ℕ
first_choice t r = order_count (operation_count t) + sum_by (choice_count t) (range_with_len 0 r) + 1

-- the candidates of an operation with their variables, in order
abbrev pub choices : TraceValue → ℕ → List ReadsFromChoice
choices t r = map (λ (numbered : ℕ × Candidate). record { candidate = numbered.1; variable = numbered.0 }) (enumerate_from (first_choice t r) (candidates t r))

-- The void variable of a reading operation without a candidate: one clause says that it is true and one that it is false, so the formula has
-- no model.
abbrev pub void_choice : TraceValue → ℕ → Option ℕ
void_choice t r = if is_some (read_at t r) && (length (candidates t r) == 0) then Some (first_choice t r) else None
