-- Where a reading operation may have its value from.
use Rattle.std.specs.Prelude.{ℕ, List, [], ◌∷◌, map, Option, Some, None, Bool, true, false, ◌&&◌}
use Rattle.std.specs.List.{filter}
use Rattle.std.specs.Option.{option_map_or}
use Rattle.trace_semantics.specs.declared.operation.Op.{Op}
use Rattle.trace_semantics.specs.declared.operation.Origin.{Origin}
use Rattle.trace_semantics.specs.declared.operation.Origin.TheVariants.{Any, Initial, Operation}
use Rattle.trace_semantics.specs.Judgement.{is_held, is_the_op}
use Rattle.trace_semantics.specs.Operation.{location_of, value_read, origin_of}
use Rattle.trace_semantics.specs.Trace.{TraceValue, value_of}
use Rattle.var_layout.specs.declared.candidate.Candidate.{Candidate}
use Rattle.var_layout.specs.declared.candidate.Candidate.TheVariants.{InitialValue, Writer}
use Rattle.var_layout.specs.Numbers.{name_at, op_at, left_at, other_writers}

-- from where an operation may read at all: the initial value, and then each other writer of its location
abbrev pub sources : TraceValue → ℕ → List Candidate
sources t r = InitialValue ∷ map (λ w. Writer w) (other_writers t r)

-- the value that comes from there
abbrev pub value_from : TraceValue → List ℕ → Candidate → Option ℕ
value_from t location InitialValue = value_of t.initial location
value_from t location (Writer w) = left_at t location w

-- there is a value, and it is the one that is read
abbrev pub is_read : Option ℕ → Option ℕ → Bool
is_read None read = false
is_read (Some d) read = is_held read d

-- it is what the origin says, if that says anything
abbrev pub is_allowed : TraceValue → Origin → Candidate → Bool
is_allowed t Any candidate = true
is_allowed t Initial InitialValue = true
is_allowed t Initial (Writer w) = false
is_allowed t (Operation n) InitialValue = false
is_allowed t (Operation n) (Writer w) = is_the_op (name_at t w) n

-- the operation may have its value from there
abbrev pub is_candidate : TraceValue → Op → Candidate → Bool
is_candidate t op candidate = is_read (value_from t (location_of op) candidate) (value_read op) && is_allowed t (origin_of op) candidate

-- the candidates of an operation, in order
abbrev pub candidates : TraceValue → ℕ → List Candidate
candidates t r = option_map_or (λ (op : Op). filter (is_candidate t op) (sources t r)) (op_at t r) []
