use Rattle.std.proofs.Common.{◌≡◌, List, sym, ◌∙◌, subst, rules}
use Rattle.std.specs.Prelude.{ℤ}
use Rattle.order_clauses.specs.declared.reason_list.ClauseOutcome.TheVariants.{Made}
use Rattle.order_clauses.specs.declared.reason_list.ReasonList.{ReasonList}
use Rattle.order_clauses.specs.ClauseOf.{IsClauseOf}
use Rattle.order_clauses.specs.Appended.{IsAppended}
use Rattle.order_clauses.specs.ReasonList.{HoldReasons}
use Rattle.order_clauses.proofs.ReasonLemmas.{reasons_more, reasons_kept}
use Rattle.order_clauses.proofs.reason_list.ReasonList.add.Goals as goal
use Rattle.order_clauses.proofs.reason_list.ReasonList.add.Goals.{then-eq+in_ok-from_slice+in_ok-push, else-eq}

pub returns-clause-hold : goal.returns-clause-hold
returns-clause-hold c t holds given =
    let old = c.args.self.now.variables in
    let new = c.put_orders.new.variables in
    elim c.if-eq.branch [
      | then-eq+in_ok-from_slice+in_ok-push w ↦ (
          let made : c.in_ok-outcome.outcome ≡ Made = search rules in
          let is = c.in_ok-outcome.ensures.says made c.in_ok-literals.ensures.items in
          let same = w.in_ok-from_slice.ensures.ok ∙ w.as_slice.ensures.value in
          subst (λ (s : ReasonList). HoldReasons t s.variables s.clauses.items) (sym w.self-is)
          (subst (λ (l : List (List ℤ)). HoldReasons t new l) (sym w.in_ok-push.ensures.items)
          (reasons_more t old new c.args.self.now.clauses.items c.args.orders.now _ c.in_ok-outcome.ensures.extended (subst (λ (l : List ℤ). IsClauseOf new c.args.orders.now l) (sym same) is) holds given)))
      | else-eq w ↦ subst (λ (s : ReasonList). HoldReasons t s.variables s.clauses.items) (sym w.self-is) (reasons_kept t old new c.args.self.now.clauses.items c.in_ok-outcome.ensures.extended given)
    ]

pub returns-clause-appended : goal.returns-clause-appended
returns-clause-appended c made =
    let new = c.put_orders.new.variables in
    elim c.if-eq.branch [
      | then-eq+in_ok-from_slice+in_ok-push w ↦ (
          let is = c.in_ok-outcome.ensures.says made c.in_ok-literals.ensures.items in
          let same = w.in_ok-from_slice.ensures.ok ∙ w.as_slice.ensures.value in
          subst (λ (s : ReasonList). IsAppended c.args.self.now s c.args.orders.now) (sym w.self-is) (record {
            clause = _;
            appended = w.in_ok-push.ensures.items;
            extended = c.in_ok-outcome.ensures.extended;
            says = subst (λ (l : List ℤ). IsClauseOf new c.args.orders.now l) (sym same) is;
          }))
      | else-eq w ↦ absurd (let other : c.in_ok-outcome.outcome ≡ Made → ⊥ = search rules in other made)
    ]
