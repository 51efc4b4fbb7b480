use Rattle.std.proofs.Common.{◌≡◌, ◌∙◌, eqb, cond, sym, subst, not, true, List, rules}
use Rattle.lrat_check.specs.Marks.{place_of, is_marked}
use Rattle.lrat_check.specs.Trail.{IsTrail}
use Rattle.lrat_check.specs.declared.true_literals.TrueLiteral.{TrueLiteral}
use Rattle.lrat_check.proofs.Justifying.TrailLemmas.{trail_more}
use Rattle.lrat_check.proofs.true_literals.TrueLiterals.push.Goals as goal

pub invariant_of-self-then-is_at_hand : goal.invariant_of-self-then-is_at_hand
invariant_of-self-then-is_at_hand c =
    let old = c.self.inside in
    let marks = is_marked c.add_at_hand.new.self in
    let entry : TrueLiteral = record { literal = c.args.literal; is_new = not c.has-is_new.result } in
    let is_new : not c.has-is_new.result ≡ not (is_marked old.marks (place_of c.args.literal)) = search rules in
    subst (λ (trail : List TrueLiteral). IsTrail trail marks) (sym c.in_ok-push.ensures.items)
    (trail_more old.trail.items entry (is_marked old.marks) marks c.self.invariant is_new
    (λ k. c.add_at_hand.ensures k ∙ (λ i. cond (eqb (c.place_of-place.ensures i) k) true (is_marked old.marks k))))
