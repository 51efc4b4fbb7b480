-- The limits of a trace's schedules have room for all its operations.
use Rattle.std.proofs.Common.{◌≡◌, ◌≤◌, Bool, true, false, refl}
use Rattle.std.specs.Prelude.{nat_le, if◌then◌else◌}
use Rattle.std.proofs.lemmas.Bool.{leb-true}
use Rattle.trace_semantics.specs.declared.limits.Limits.TheVariants.{Small, Large}
use Rattle.trace_semantics.specs.Limits.{max_operations}
use Rattle.trace_semantics.specs.ScheduleLimits.{limits_for}
use Rattle.trace_semantics.specs.Trace.{TraceValue, IsTrace, operation_count}

room_by : (t : TraceValue) → IsTrace t → (small : Bool) → nat_le (operation_count t) (max_operations Small) ≡ small → operation_count t ≤ max_operations (if small then Small else Large)
room_by t ok true h = leb-true (operation_count t) (max_operations Small) h
room_by t ok false h = ok.few_operations

pub schedule_room : (t : TraceValue) → IsTrace t → operation_count t ≤ max_operations (limits_for t)
schedule_room t ok = room_by t ok (nat_le (operation_count t) (max_operations Small)) refl
