use Rattle.std.proofs.Common.{◌≡◌, true}
use Rattle.reason_counting.proofs.KeptLemmas.{kept_weaker}
use Rattle.reason_counting.proofs.counted_members.keep_start.Goals as goal

pub returns-clause-only : goal.returns-clause-only
returns-clause-only c =
    let left = c.args.left.now in
    kept_weaker c.args.kept.now c.keep_initial.new.self (λ m. ⊥) (λ m. ⊥) (λ a. a ≡ left.location.now) (λ a. (left.is_initial_left ≡ true) × (a ≡ left.location.now)) (λ m h. h) (λ a e. (c.if-not-left.false, e)) c.in_ok-keep_initial.ensures.only
