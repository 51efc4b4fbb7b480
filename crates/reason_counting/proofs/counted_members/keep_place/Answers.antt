use Rattle.std.proofs.Common.{◌≡◌, ◌≤◌}
use Rattle.reason_clauses.specs.Numbered.{at_number}
use Rattle.reason_counting.proofs.KeptLemmas.{kept_weaker}
use Rattle.reason_counting.proofs.counted_members.keep_place.Goals as goal

pub returns-clause-only : goal.returns-clause-only
returns-clause-only c =
    let n = at_number c.args.process c.args.place in
    kept_weaker c.args.kept.now c.keep.new.self (λ m. m ≡ n) (λ m. (m ≡ n) × (c.args.stretch.first ≤ c.args.place) × (c.args.place ≤ c.args.stretch.last)) (λ a. ⊥) (λ a. ⊥) (λ m e. (e, c.if-place-stretch.false, c.if-stretch-place.false)) (λ a h. h) c.in_ok-keep.ensures.only
