use Rattle.std.proofs.Common.{List, ℕ, sym, ap, ◌∙◌, arith}
use Rattle.std.specs.Borrow.{Bor}
use Rattle.reason_counting.proofs.KeptLemmas.{other_next}
use Rattle.reason_counting.proofs.distinct_sources.has_location.Goals as goal

pub loop-other-init : goal.loop-other-init
loop-other-init c j d less same = omega (arith, less)

pub loop-other-preserved : goal.loop-other-preserved
loop-other-preserved c = other_next c.args.locations.now c.args.location.now c.loop-other.other-index _ c.loop-other.invariant c.loop-other-test.true (sym c.is_one_location.ensures ∙ c.if-is_one_location.false)

pub returns-clause-other : goal.returns-clause-other
returns-clause-other c e h = c.loop-other.invariant h.1.0 h.0 (let low = h.1.1 in let past = c.loop-other-test.false in omega (arith, low, past)) (ap (λ (x : Bor (List ℕ)). x.now) h.1.2 ∙ h.2)
