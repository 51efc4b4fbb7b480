-- What a layout keeps of each operation and of each final value.
use Rattle.std.specs.Prelude.{◌≡◌, ◌≤◌, ℕ, List, [], length, map, Option, is_some, Bool, slice_get}
use Rattle.std.specs.List.{position_or_len, range_with_len}
use Rattle.std.specs.Option.{option_map, option_map_or}
use Rattle.trace_semantics.specs.declared.operation.OpName.{OpName}
use Rattle.trace_semantics.specs.Trace.{TraceValue, IsTrace, operation_count}
use Rattle.var_layout.specs.declared.candidate.ReadsFromChoice.{ReadsFromChoice}
use Rattle.var_layout.specs.declared.candidate.FinalChoice.{FinalChoice}
use Rattle.var_layout.specs.ChoiceVariables.{choices, void_choice}
use Rattle.var_layout.specs.FinalVariables.{final_choices, finals, void_of, void_final, variable_count}
use Rattle.var_layout.specs.KnownPairs.{known_pairs}
use Rattle.var_layout.specs.Numbers.{numbers, name_at, read_at, writers, other_writers, in_one_process}

-- of an operation: the first one of its process, whether it reads, its other writers, its choices and its void variable
pub record OpTableValue : Type 0 where
  pub leader : ℕ
  pub reads : Bool
  pub writers : List ℕ
  pub choices : List ReadsFromChoice
  pub void : Option ℕ

-- the first operation of the process of an operation
abbrev pub leader_of : TraceValue → ℕ → ℕ
leader_of t i = position_or_len (λ k. in_one_process t k i) (numbers t)

-- that of an operation of the trace, and nothing past its end
abbrev pub leader_at : TraceValue → ℕ → Option ℕ
leader_at t i = option_map (λ (n : OpName). leader_of t i) (name_at t i)

abbrev pub op_table : TraceValue → ℕ → OpTableValue
op_table t i = record { leader = leader_of t i; reads = is_some (read_at t i); writers = other_writers t i; choices = choices t i; void = void_choice t i }

-- of a final value: the writers of its location, its choices and its void variable
pub record FinalTableValue : Type 0 where
  pub writers : List ℕ
  pub choices : List FinalChoice
  pub void : Option ℕ

-- what is kept of the k-th final value, which is this one
abbrev pub final_table_of : TraceValue → ℕ → List ℕ × ℕ → FinalTableValue
final_table_of t k entry = record { writers = writers t entry.0; choices = final_choices t k entry; void = void_of t k entry }

-- the writers of the k-th final value's location
abbrev pub final_writers : TraceValue → ℕ → List ℕ
final_writers t k = option_map_or (λ (entry : List ℕ × ℕ). writers t entry.0) (slice_get t.final_values k) []

abbrev pub final_table : TraceValue → ℕ → FinalTableValue
final_table t k = record { writers = final_writers t k; choices = finals t k; void = void_final t k }

-- the tables of a layout are those of its trace, which has 160 operations at most
pub record IsLayout (t : TraceValue) (ops : List OpTableValue) (ends : List FinalTableValue) (pairs : List (ℕ × ℕ)) (last : ℕ) : Type 0 where
  pub is_trace : IsTrace t
  pub few : operation_count t ≤ 160
  pub operations : ops ≡ map (op_table t) (numbers t)
  pub final_values : ends ≡ map (final_table t) (range_with_len 0 (length t.final_values))
  pub before : pairs ≡ known_pairs t
  pub count : last ≡ variable_count t
