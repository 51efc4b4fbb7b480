use Rattle.std.proofs.Common.{◌≡◌}
use Rattle.std.specs.Prelude.{is_some}
use Rattle.std.specs.List.{filter, range_with_len}
use Rattle.var_layout.specs.Numbers.{left_at}
use Rattle.var_layout.proofs.numbering.Numbering.writers.Given as goal

abbrev pub invariant-loop-i : goal.invariant-loop-i
invariant-loop-i l = l.found.items ≡ filter (λ i. is_some (left_at l.self l.location i)) (range_with_len 0 l.i)
