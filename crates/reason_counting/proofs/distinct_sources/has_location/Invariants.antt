use Rattle.std.proofs.Common.{◌≡◌, ◌<◌, ℕ, List, get_or}
use Rattle.std.specs.Borrow.{Bor}
use Rattle.reason_counting.proofs.distinct_sources.has_location.Given as goal

abbrev pub invariant-loop-other : goal.invariant-loop-other
invariant-loop-other l = (j : ℕ) (d : Bor (List ℕ)) → j < l.other-index → (get_or l.locations j d).now ≡ l.location → ⊥
