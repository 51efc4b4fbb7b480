use Rattle.std.proofs.Common.{◌≡◌, take}
use Rattle.std.specs.List.{filter_map, slice_get}
use Rattle.schedule_decode.proofs.operation_names.names_in_order.Given as goal

abbrev pub invariant-loop-i : goal.invariant-loop-i
invariant-loop-i l = l.named.items ≡ filter_map (slice_get l.names) (take l.i-index l.order)
