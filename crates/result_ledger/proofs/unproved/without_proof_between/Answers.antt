use Rattle.std.proofs.Common.{◌≡◌, true, false, sym, ◌∙◌, Some, arith}
use Rattle.std.specs.List.{slice_get}
use Rattle.result_ledger.specs.Verdict.{HasProofAt}
use Rattle.result_ledger.proofs.AnswerLemmas.{not_proved, read}
use Rattle.result_ledger.proofs.WithoutLemmas.{had_between, listed_between}
use Rattle.result_ledger.proofs.unproved.without_proof_between.Goals as goal

pub loop-leaf-preserved-then-served : goal.loop-leaf-preserved-then-served
loop-leaf-preserved-then-served g c =
    let slots = c.args.slots.now in
    let there : slice_get slots c.loop-leaf.leaf ≡ Some c.index-slots-leaf.result = read slots c.loop-leaf.leaf c.index-slots-leaf.result (omega arith) c.index-slots-leaf.is in
    let here : HasProofAt (g.L.ClauseList.formula c.args.formula.now).clauses slots c.loop-leaf.leaf = record { slot = c.index-slots-leaf.result; there = there; holds = c.is_served-served.ensures c.if-served.true } in
    (had_between (HasProofAt (g.L.ClauseList.formula c.args.formula.now).clauses slots) c.args.from c.loop-leaf.leaf c.loop-leaf.leaves.items here c.loop-leaf.invariant.0, omega (arith, c.loop-leaf.invariant.1), omega (arith, c.loop-leaf-test.true), c.loop-leaf.invariant.3)

pub loop-leaf-preserved-then-proved : goal.loop-leaf-preserved-then-proved
loop-leaf-preserved-then-proved g c =
    let slots = c.args.slots.now in
    let there : slice_get slots c.loop-leaf.leaf ≡ Some c.index-slots-leaf.result = read slots c.loop-leaf.leaf c.index-slots-leaf.result (omega arith) c.index-slots-leaf.is in
    let here : HasProofAt (g.L.ClauseList.formula c.args.formula.now).clauses slots c.loop-leaf.leaf = record { slot = c.index-slots-leaf.result; there = there; holds = c.in_ok-proved.ensures.0 c.if-proved.true } in
    (had_between (HasProofAt (g.L.ClauseList.formula c.args.formula.now).clauses slots) c.args.from c.loop-leaf.leaf c.loop-leaf.leaves.items here c.loop-leaf.invariant.0, omega (arith, c.loop-leaf.invariant.1), omega (arith, c.loop-leaf-test.true), c.in_ok-proved.ensures.0 c.if-proved.true)

pub loop-leaf-preserved : goal.loop-leaf-preserved
loop-leaf-preserved g c =
    let slots = c.args.slots.now in
    let there : slice_get slots c.loop-leaf.leaf ≡ Some c.index-slots-leaf.result = read slots c.loop-leaf.leaf c.index-slots-leaf.result (omega arith) c.index-slots-leaf.is in (
      rw c.in_ok-push.ensures.items
          (listed_between (HasProofAt (g.L.ClauseList.formula c.args.formula.now).clauses slots) c.args.from c.loop-leaf.leaf c.loop-leaf.leaves.items c.loop-leaf.invariant.1
          (not_proved (g.L.ClauseList.formula c.args.formula.now).clauses slots c.loop-leaf.leaf c.index-slots-leaf.result there
          (λ p. absurd (let e : false ≡ true = sym c.if-proved.false ∙ c.in_ok-proved.ensures.1 p in cc)))
          c.loop-leaf.invariant.0),
      omega (arith, c.loop-leaf.invariant.1),
      omega (arith, c.loop-leaf-test.true),
      c.loop-leaf.invariant.3,
    )
