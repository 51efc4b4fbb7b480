use Rattle.std.proofs.Common.{◌≡◌, true, false, refl, sym, ◌∙◌, inr}
use Rattle.reason_clauses.proofs.OwnLemmas.{is_own_source}
use Rattle.reason_clauses.proofs.own.own_source.Goals as goal

pub returns-then-not-leaves-clause-source : goal.returns-then-not-leaves-clause-source
returns-then-not-leaves-clause-source c =
    is_own_source c.args.trace.now c.args.reader c.args.origin.now c.args.location.now c.args.value c.own_last-last.result 0 c.own_last-last.ensures
    (λ known allowed leaves. absurd (let clash : true ≡ false = sym (c.leaves.ensures.found known leaves) ∙ c.if-not-leaves.true in cc))

pub returns-then-not-is_from-clause-source : goal.returns-then-not-is_from-clause-source
returns-then-not-is_from-clause-source c =
    is_own_source c.args.trace.now c.args.reader c.args.origin.now c.args.location.now c.args.value c.own_last-last.result 0 c.own_last-last.ensures
    (λ known allowed leaves. absurd (let clash : true ≡ false = sym (c.is_from.ensures.found known.0 allowed) ∙ c.if-not-is_from.true in cc))

pub returns-clause-source : goal.returns-clause-source
returns-clause-source c = is_own_source c.args.trace.now c.args.reader c.args.origin.now c.args.location.now c.args.value c.own_last-last.result c.own_last-last.result c.own_last-last.ensures (λ known allowed leaves. refl)

pub returns-clause-exact : goal.returns-clause-exact
returns-clause-exact c =
    let there = c.leaves.ensures.only c.if-not-leaves.false in
    inr (record { known = there.0; leaves = there.1; allowed = c.is_from.ensures.only c.if-not-is_from.false; own = λ same. c.own_last-last.ensures })
