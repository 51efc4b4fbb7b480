use Rattle.std.proofs.Common.{◌≡◌, ◌+◌, ◌-◌, ℕ, vec_len}
use Rattle.lrat_check.specs.AddedAt.{in_row}
use Rattle.lrat_check.proofs.added_clauses.make_rows.Given as goal

abbrev pub invariant-loop-rows : goal.invariant-loop-rows
invariant-loop-rows l = (k : ℕ) → in_row l.rows.items k ≡ in_row l.fn.rows.items k

abbrev pub decreases-loop-rows : goal.decreases-loop-rows
decreases-loop-rows l = l.place + 1 - vec_len l.rows
