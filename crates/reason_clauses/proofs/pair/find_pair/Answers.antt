use Rattle.std.proofs.Common.{◌≡◌, ◌<◌, true, false, length, get_or, ap, sym, ◌∙◌, subst, arith, inl, inr}
use Rattle.std.proofs.lemmas.Bool.{cases_order}
use Rattle.order_clauses.specs.Numbered.{named_order}
use Rattle.reason_clauses.proofs.pair.find_pair.Goals as goal

pub loop-k-preserved : goal.loop-k-preserved
loop-k-preserved c j low here first second =
    let t = c.args.trace.now in
    let n = c.loop-k.k in
    elim (cases_order j n) [
      | inl e ↦ (
          let long = ap length c.before-pairs.ensures in
          let inside = c.loop-k-test.true in
          let at : get_or t.before n (named_order t c.args.order) ≡ named_order t c.args.order = subst (λ i. get_or t.before i (named_order t c.args.order) ≡ named_order t c.args.order) e here in
          let found = c.is_pair_at.ensures.found (omega (arith, long, inside)) at first second in
          let clash : true ≡ false = sym found ∙ c.if-is_pair_at.false in absurd (cc))
      | inr (inl less) ↦ c.loop-k.invariant j less here first second
      | inr (inr over) ↦ absurd (omega (arith, low, over))
    ]

pub returns-clause-found : goal.returns-clause-found
returns-clause-found c listed first second =
    absurd (let long = ap length c.before-pairs.ensures in let past = c.loop-k-test.false in let low = listed.1 in c.loop-k.invariant listed.0 (omega (arith, long, past, low)) listed.2 first second)
