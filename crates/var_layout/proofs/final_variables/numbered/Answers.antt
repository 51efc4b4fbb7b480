use Rattle.std.proofs.Common.{ℕ, ◌+◌, ◌++◌, ◌∷◌, [], sym, ◌∙◌, get_or}
use Rattle.var_layout.specs.declared.candidate.FinalChoice.{FinalChoice}
use Rattle.var_layout.proofs.ListLemmas.{numbered_more}
use Rattle.var_layout.proofs.final_variables.numbered.Goals as goal

pub loop-k-preserved : goal.loop-k-preserved
loop-k-preserved c =
    let choice : ℕ × ℕ → FinalChoice = λ numbered. record { writer = numbered.1; variable = numbered.0 } in
    c.in_ok-push.ensures.items
    ∙ (λ i. c.loop-k.invariant i ++ choice (c.args.first + c.loop-k.k, get_or c.args.writers.now c.loop-k.k 0) ∷ [])
    ∙ sym (numbered_more choice c.args.first c.args.writers.now c.loop-k.k 0 c.loop-k-test.true)
