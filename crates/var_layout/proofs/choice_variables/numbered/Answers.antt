use Rattle.std.proofs.Common.{ℕ, ◌+◌, ◌++◌, ◌∷◌, [], sym, ◌∙◌, get_or}
use Rattle.var_layout.specs.declared.candidate.Candidate.{Candidate}
use Rattle.var_layout.specs.declared.candidate.Candidate.TheVariants.{InitialValue}
use Rattle.var_layout.specs.declared.candidate.ReadsFromChoice.{ReadsFromChoice}
use Rattle.var_layout.proofs.ListLemmas.{numbered_more}
use Rattle.var_layout.proofs.choice_variables.numbered.Goals as goal

pub loop-k-preserved : goal.loop-k-preserved
loop-k-preserved c =
    let choice : ℕ × Candidate → ReadsFromChoice = λ numbered. record { candidate = numbered.1; variable = numbered.0 } in
    c.in_ok-push.ensures.items
    ∙ (λ i. c.loop-k.invariant i ++ choice (c.args.first + c.loop-k.k, get_or c.args.candidates.now c.loop-k.k InitialValue) ∷ [])
    ∙ sym (numbered_more choice c.args.first c.args.candidates.now c.loop-k.k InitialValue c.loop-k-test.true)
