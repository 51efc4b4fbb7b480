-- What a reduced trace is, and when a trace is not reduced.
use Rattle.std.specs.Prelude.{◌≡◌, ◌<◌, ◌≤◌, ℕ}
use Rattle.trace_semantics.specs.Trace.{TraceValue, IsTrace, operation_count}
use Rattle.reducer.specs.declared.reduce_fault.ReduceCause.{ReduceCause}
use Rattle.reducer.specs.declared.reduce_fault.ReduceCause.TheVariants.{StillTooLarge}
use Rattle.reducer.specs.Reduction.{kept_trace}

-- a trace, and what is kept of it
pub record ReducedValue : Type 0 where
  pub whole : TraceValue
  pub kept : TraceValue

-- what holds of each reduced trace: it is the reduction of the whole one, and has at most 160 operations
pub record IsReduced (r : ReducedValue) : Type 0 where
  pub is_trace : IsTrace r.whole
  pub reduction : r.kept ≡ kept_trace r.whole
  pub few : operation_count r.kept ≤ 160

-- a trace is not reduced since this many operations are left, and these are more than 160
abbrev pub HasReduceFault : TraceValue → ReduceCause → ℕ → Type 0
HasReduceFault t StillTooLarge left = (160 < left) × (left ≡ operation_count (kept_trace t))
