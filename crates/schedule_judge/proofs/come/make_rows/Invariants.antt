use Rattle.std.proofs.Common.{◌≡◌, ◌+◌, ◌-◌, ℕ, vec_len}
use Rattle.schedule_judge.specs.Come.{count_in_row}
use Rattle.schedule_judge.proofs.come.make_rows.Given as goal

abbrev pub invariant-loop-counts : goal.invariant-loop-counts
invariant-loop-counts l = (k : ℕ) → count_in_row l.counts.items k ≡ count_in_row l.fn.counts.items k

abbrev pub decreases-loop-counts : goal.decreases-loop-counts
decreases-loop-counts l = l.row + 1 - vec_len l.counts
