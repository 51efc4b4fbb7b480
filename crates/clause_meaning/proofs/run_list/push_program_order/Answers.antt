use Rattle.std.proofs.Common.{ℕ, ap, sym, ◌∙◌, ◌++◌, ◌+◌, ◌∷◌, [], true, false, append-nil}
use Rattle.var_layout.specs.Numbers.{in_one_process}
use Rattle.clause_blocks.proofs.InPieces.StepLemmas.{map_passed}
use Rattle.clause_meaning.specs.declared.run.ClauseRun.TheVariants as run
use Rattle.clause_meaning.proofs.run_list.push_program_order.Goals as goal
use Rattle.clause_meaning.proofs.run_list.push_program_order.Goals.{then-in_one_process+in_ok-push, else-in_one_process}

pub loop-i-preserved : goal.loop-i-preserved
loop-i-preserved c =
    let t = c.args.layout.now in
    let step = map_passed (λ (i : ℕ). run.ProgramOrder i) (λ (i : ℕ). in_one_process t i (i + 1)) c.args.runs.now.items c.loop-i.i in
    elim c.if-in_one_process.branch [
      | then-in_one_process+in_ok-push w ↦ (
          ap (λ v. v.items) w.runs-is ∙ w.in_ok-push.ensures.items
          ∙ ap (λ l. l ++ run.ProgramOrder c.loop-i.i ∷ []) c.loop-i.invariant
          ∙ step true (sym c.in_one_process.ensures ∙ w.if-in_one_process.true))
      | else-in_one_process w ↦ (
          ap (λ v. v.items) w.runs-is ∙ c.loop-i.invariant ∙ sym (append-nil _)
          ∙ step false (sym c.in_one_process.ensures ∙ w.if-in_one_process.false))
    ]
