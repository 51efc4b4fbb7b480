use Rattle.std.proofs.Common.{eqb, cond, sym, subst, ◌∙◌, ◌&&◌, not, List}
use Rattle.lrat_check.specs.Marks.{place_of, is_marked}
use Rattle.lrat_check.specs.Trail.{IsTrail}
use Rattle.lrat_check.specs.declared.true_literals.TrueLiteral.{TrueLiteral}
use Rattle.lrat_check.proofs.Justifying.TrailLemmas.{trail_less}
use Rattle.lrat_check.proofs.true_literals.TrueLiterals.undo.Goals as goal

pub invariant_of-self : goal.invariant_of-self
invariant_of-self c =
    let marks = is_marked c.self.inside.marks in
    let last = c.in-Some.last in
    let before = subst (λ (trail : List TrueLiteral). IsTrail trail marks) c.in-Some.ensures.items c.self.invariant in
    trail_less c.pop.new.self.items last marks (is_marked c.remove.new.self) before
    (λ k. c.remove.ensures k ∙ (λ i. cond (sym c.if-last.true i) (marks k && not (eqb k (c.place_of.ensures i))) (marks k)))

pub invariant_of-self-else-last : goal.invariant_of-self-else-last
invariant_of-self-else-last c =
    let marks = is_marked c.self.inside.marks in
    let last = c.in-Some.last in
    let before = subst (λ (trail : List TrueLiteral). IsTrail trail marks) c.in-Some.ensures.items c.self.invariant in
    trail_less c.pop.new.self.items last marks marks before
    (λ k i. cond (sym c.if-last.false i) (marks k && not (eqb k (place_of last.literal))) (marks k))
