-- The limits of schedules.
use Rattle.std.specs.Prelude.{nat_le, if◌then◌else◌}
use Rattle.trace_semantics.specs.declared.limits.Limits.{Limits}
use Rattle.trace_semantics.specs.declared.limits.Limits.TheVariants.{Small, Large}
use Rattle.trace_semantics.specs.Limits.{max_operations}
use Rattle.trace_semantics.specs.Trace.{TraceValue, operation_count}

-- the limits of the schedules of a trace: those of versions 1 and 2 unless it has more operations
abbrev pub limits_for : TraceValue → Limits
limits_for t = if nat_le (operation_count t) (max_operations Small) then Small else Large
