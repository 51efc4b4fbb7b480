use Rattle.std.proofs.Common.{◌≡◌, ℕ, List, rules, sym, subst}
use Rattle.forced_order.specs.Times.{AreLeastEnds}
use Rattle.forced_order.proofs.least_ends.LeastEnds.last_ended.Goals as goal

pub returns : goal.returns
returns c = λ ops least.
    (let same : c.as_slice.result.now ≡ c.args.self.now = search rules in
    c.last_of.ensures ops (subst (λ (ends : List ℕ). AreLeastEnds ops ends) (sym same) least))
