use Rattle.std.proofs.Common.{◌≡◌, ◌+◌, ◌-◌, ℕ, vec_len}
use Rattle.lrat_check.specs.Hidden.{is_hidden}
use Rattle.lrat_check.proofs.hidden_ids.HiddenIds.reach.Given as goal

abbrev pub invariant-loop-self : goal.invariant-loop-self
invariant-loop-self l = (k : ℕ) → is_hidden l.self k ≡ is_hidden l.fn.self k

abbrev pub decreases-loop-self : goal.decreases-loop-self
decreases-loop-self l = l.id + 1 - vec_len l.self.near
