use Rattle.std.proofs.Common.{◌≡◌, ℤ, ◌+◌, take}
use Rattle.lrat_check.specs.Counts.{literal_count, times}
use Rattle.lrat_check.proofs.literal_counts.LiteralCounts.add.Given as goal

abbrev pub invariant-loop-literal : goal.invariant-loop-literal
invariant-loop-literal l = (z : ℤ) → literal_count l.self z ≡ literal_count l.initial.self z + times (take l.literal-index l.clause) z
