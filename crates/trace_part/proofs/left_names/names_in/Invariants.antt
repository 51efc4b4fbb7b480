use Rattle.std.proofs.Common.{◌≡◌, map, take}
use Rattle.trace_part.specs.Rows.{row_at_place}
use Rattle.trace_part.proofs.left_names.names_in.Given as goal

abbrev pub invariant-loop-k : goal.invariant-loop-k
invariant-loop-k l = l.names.items ≡ map (row_at_place l.number l.places) (take l.k l.places)
