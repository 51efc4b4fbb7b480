-- Additions are steps, and an answer within a budget is within a larger one.
use Rattle.std.proofs.Common.{◌≤◌, List, length, not, refl, arith}
use Rattle.std.proofs.lemmas.List.Filters.{length-filter_both}
use Rattle.lrat_check.specs.declared.derivation.Step.{Step}
use Rattle.proof_log.specs.Answers.{is_addition, additions}

pub additions_within : (steps : List Step) → additions steps ≤ length steps
additions_within steps = omega (arith, length-filter_both is_addition (λ step. not (is_addition step)) (λ _. refl) steps)
