use Rattle.std.proofs.Common.{◌≡◌, ◌∙◌, eqb, cond, sym, subst, not, true, List, rules}
use Rattle.lrat_check.specs.Marks.{place_of, is_marked}
use Rattle.lrat_check.specs.Trail.{IsTrail}
use Rattle.lrat_check.specs.declared.true_literals.TrueLiteral.{TrueLiteral}
use Rattle.lrat_check.proofs.Justifying.TrailLemmas.{trail_more, trail_same, taken_back}
use Rattle.lrat_check.proofs.true_literals.TrueLiterals.push_with_room.Goals as goal

pub invariant_of-self-in-Ok : goal.invariant_of-self-in-Ok
invariant_of-self-in-Ok c =
    let old = c.self.inside in
    let marks = is_marked c.add.new.self in
    let entry : TrueLiteral = record { literal = c.args.literal; is_new = not c.has-is_new.result } in
    let is_new : not c.has-is_new.result ≡ not (is_marked old.marks (place_of c.args.literal)) = search rules in
    subst (λ (trail : List TrueLiteral). IsTrail trail marks) (sym c.in_ok-push.ensures.items)
    (trail_more old.trail.items entry (is_marked old.marks) marks c.self.invariant is_new
    (λ k. c.in-Ok.ensures.added k ∙ (λ i. cond (eqb (c.place_of-place.ensures i) k) true (is_marked old.marks k))))

pub invariant_of-self-in-Err : goal.invariant_of-self-in-Err
invariant_of-self-in-Err c =
    let old = c.self.inside in
    let entry : TrueLiteral = record { literal = c.args.literal; is_new = not c.has-is_new.result } in
    let back = taken_back old.trail.items c.push.new.self.items c.truncate.new.self.items entry c.len-count.result (search rules) c.in_ok-push.ensures.items c.truncate.ensures.items in
    subst (λ (trail : List TrueLiteral). IsTrail trail (is_marked c.add.new.self)) (sym back) (trail_same old.trail.items (is_marked old.marks) (is_marked c.add.new.self) c.self.invariant c.in-Err.ensures.unchanged)
