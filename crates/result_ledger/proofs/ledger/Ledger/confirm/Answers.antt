use Rattle.std.proofs.Common.{◌≡◌, Bool, List, length, sym, ◌∙◌, ap, subst}
use Rattle.std.proofs.lemmas.Bool.{eqb-true}
use Rattle.result_ledger.specs.declared.slot.Slot.{Slot}
use Rattle.result_ledger.specs.Verdict.{HasModelAt, HasProofAt, HaveNoModelBefore, AreWithout}
use Rattle.result_ledger.proofs.WithoutLemmas.{all_before}
use Rattle.result_ledger.proofs.VerdictLemmas.{all_proved, some_without, not_none}
use Rattle.result_ledger.proofs.ledger.Ledger.confirm.Goals as goal

pub returns-in_ok-truth-in-Some : goal.returns-in_ok-truth-in-Some
returns-in_ok-truth-in-Some g c =
    let clauses = (g.L.ClauseList.formula c.args.formula.now).clauses in
    let found = c.in-Some.found in
    let slots_are : c.as_slice-slots.result.now ≡ c.args.self.now = c.as_slice-slots.ensures.value ∙ c.self.view_is in
    let here : HasModelAt clauses c.args.self.now found.leaf found.assignment.now = subst (λ (slots : List Slot). HasModelAt clauses slots found.leaf found.assignment.now) slots_are c.in-Some.ensures.0 in
    let none : HaveNoModelBefore clauses c.args.self.now found.leaf = subst (λ (slots : List Slot). HaveNoModelBefore clauses slots found.leaf) slots_are c.in-Some.ensures.1 in
    (subst (λ (truth : List Bool). HasModelAt clauses c.args.self.now found.leaf truth) (sym c.in_ok-truth-in-Some.ensures) here, none)

pub returns-then-is_empty : goal.returns-then-is_empty
returns-then-is_empty g c =
    let clauses = (g.L.ClauseList.formula c.args.formula.now).clauses in
    let slots_are : c.as_slice-slots.result.now ≡ c.args.self.now = c.as_slice-slots.ensures.value ∙ c.self.view_is in
    let none : HaveNoModelBefore clauses c.args.self.now (length c.args.self.now) = subst (λ (slots : List Slot). HaveNoModelBefore clauses slots (length slots)) slots_are c.in-None.ensures in
    let left : AreWithout (HasProofAt clauses c.args.self.now) (length c.args.self.now) c.in_ok-leaves-in-None.leaves.items =
    subst
    (λ (slots : List Slot). AreWithout (HasProofAt clauses slots) (length slots) c.in_ok-leaves-in-None.leaves.items)
    slots_are
    (all_before (HasProofAt clauses c.as_slice-slots.result.now) (length c.as_slice-slots.result.now) c.in_ok-leaves-in-None.leaves.items c.in_ok-leaves-in-None.ensures) in
    let count = c.in_ok-leaves-in-None.leaves.ok.0 in
    let empty : c.in_ok-leaves-in-None.leaves.len ≡ 0 = eqb-true c.in_ok-leaves-in-None.leaves.len 0 (sym c.is_empty.ensures ∙ c.if-is_empty.true) in
    all_proved clauses c.args.self.now c.in_ok-leaves-in-None.leaves.items _ none left (sym count ∙ empty) (ap length slots_are)

pub returns-else-is_empty : goal.returns-else-is_empty
returns-else-is_empty g c =
    let clauses = (g.L.ClauseList.formula c.args.formula.now).clauses in
    let slots_are : c.as_slice-slots.result.now ≡ c.args.self.now = c.as_slice-slots.ensures.value ∙ c.self.view_is in
    let none : HaveNoModelBefore clauses c.args.self.now (length c.args.self.now) = subst (λ (slots : List Slot). HaveNoModelBefore clauses slots (length slots)) slots_are c.in-None.ensures in
    let left : AreWithout (HasProofAt clauses c.args.self.now) (length c.args.self.now) c.in_ok-leaves-in-None.leaves.items =
    subst
    (λ (slots : List Slot). AreWithout (HasProofAt clauses slots) (length slots) c.in_ok-leaves-in-None.leaves.items)
    slots_are
    (all_before (HasProofAt clauses c.as_slice-slots.result.now) (length c.as_slice-slots.result.now) c.in_ok-leaves-in-None.leaves.items c.in_ok-leaves-in-None.ensures) in
    let not_empty = sym c.is_empty.ensures ∙ c.if-is_empty.false in
    rw c.new.ensures (some_without clauses c.args.self.now c.in_ok-leaves-in-None.leaves.items none left (not_none c.in_ok-leaves-in-None.leaves.items c.in_ok-leaves-in-None.leaves.len c.in_ok-leaves-in-None.leaves.ok.0 not_empty))
