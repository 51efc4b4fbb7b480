-- What a tally of operations counts.
use Rattle.std.specs.Prelude.{◌≡◌, ◌&&◌, ℕ, List, length, Bool, is_some}
use Rattle.std.specs.List.{filter, flat_map, list_any}
use Rattle.trace_semantics.specs.declared.operation.Op.{Op}
use Rattle.trace_semantics.specs.declared.trace.Process.{Process}
use Rattle.trace_semantics.specs.Judgement.{is_held}
use Rattle.trace_semantics.specs.Trace.{TraceValue}
use Rattle.restriction.specs.Restriction.{left_by}
use Rattle.reason_clauses.specs.Makers.{read_by}
use Rattle.reason_counting.specs.declared.tally.Tally.{Tally}

abbrev pub does_write : List ℕ → Op → Bool
does_write location op = is_some (left_by location op)

abbrev pub does_want : List ℕ → ℕ → Op → Bool
does_want location value op = is_held (read_by location op) value && does_write location op

abbrev pub does_leave : List ℕ → ℕ → Op → Bool
does_leave location value op = is_held (left_by location op) value

-- how many of the operations want the value, how many leave it, and whether some operation writes the location
pub record IsTallyOf (location : List ℕ) (value : ℕ) (ops : List Op) (tally : Tally) : Type 0 where
  pub wanting : tally.wanting ≡ length (filter (does_want location value) ops)
  pub leaving : tally.leaving ≡ length (filter (does_leave location value) ops)
  pub is_written : tally.is_written ≡ list_any (does_write location) ops

-- the same of all operations of the trace
abbrev pub IsTallyOfTrace : TraceValue → List ℕ → ℕ → Tally → Type 0
IsTallyOfTrace t location value tally = IsTallyOf location value (flat_map (λ (p : Process). p.operations) t.processes) tally
