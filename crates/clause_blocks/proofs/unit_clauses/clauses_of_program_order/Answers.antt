use Rattle.std.proofs.Common.{ap, sym, ◌∙◌, ◌++◌, ◌+◌, ◌∷◌, [], true, false, append-nil}
use Rattle.var_layout.specs.Numbers.{in_one_process}
use Rattle.clause_blocks.specs.Blocks.{stands_before}
use Rattle.clause_blocks.proofs.NumbersOfNames.OperationLemmas.{shared_within}
use Rattle.clause_blocks.proofs.InPieces.StepLemmas.{map_passed}
use Rattle.clause_blocks.proofs.unit_clauses.clauses_of_program_order.Goals as goal
use Rattle.clause_blocks.proofs.unit_clauses.clauses_of_program_order.Goals.{then-in_one_process+in_ok-push, else-in_one_process}

pub order_lit-requires-clause-second : goal.order_lit-requires-clause-second
order_lit-requires-clause-second c =
    let t = c.args.layout.now in
    (shared_within t c.loop-i.i (c.loop-i.i + 1) (sym c.in_one_process.ensures ∙ c.if-in_one_process.true)).1

pub loop-i-preserved : goal.loop-i-preserved
loop-i-preserved c =
    let t = c.args.layout.now in
    let step = map_passed (λ i. stands_before t i (i + 1) ∷ []) (λ i. in_one_process t i (i + 1)) [] c.loop-i.i in
    elim c.if-in_one_process.branch [
      | then-in_one_process+in_ok-push w ↦ (
          ap (λ v. v.items) w.clauses-is ∙ w.in_ok-push.ensures.items
          ∙ (λ i. c.loop-i.invariant i ++ (w.unit.ensures ∙ ap (λ l. l ∷ []) w.order_lit.ensures) i ∷ [])
          ∙ step true (sym c.in_one_process.ensures ∙ w.if-in_one_process.true))
      | else-in_one_process w ↦ (
          ap (λ v. v.items) w.clauses-is ∙ c.loop-i.invariant ∙ sym (append-nil _)
          ∙ step false (sym c.in_one_process.ensures ∙ w.if-in_one_process.false))
    ]
