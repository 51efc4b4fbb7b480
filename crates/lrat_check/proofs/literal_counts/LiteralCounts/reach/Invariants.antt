use Rattle.std.proofs.Common.{◌≡◌, ◌+◌, ◌-◌, ℕ, vec_len}
use Rattle.lrat_check.specs.Counts.{count_at}
use Rattle.lrat_check.proofs.literal_counts.LiteralCounts.reach.Given as goal

abbrev pub invariant-loop-self : goal.invariant-loop-self
invariant-loop-self l = (k : ℕ) → count_at l.self k ≡ count_at l.fn.self k

abbrev pub decreases-loop-self : goal.decreases-loop-self
decreases-loop-self l = l.place + 1 - vec_len l.self.near
