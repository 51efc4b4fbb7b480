use Rattle.std.proofs.Common.{◌≡◌, ◌<◌, ℕ, get_or, length}
use Rattle.order_clauses.specs.Numbered.{named_order, IsKnown}
use Rattle.reason_clauses.proofs.pair.find_pair.Given as goal

abbrev pub invariant-loop-k : goal.invariant-loop-k
invariant-loop-k l = (j : ℕ) → j < l.k → get_or l.trace.before j (named_order l.trace l.order) ≡ named_order l.trace l.order → IsKnown l.trace l.order.first → IsKnown l.trace l.order.second → ⊥
