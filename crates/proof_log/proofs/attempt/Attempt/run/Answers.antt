use Rattle.std.proofs.Common.{◌≤◌, subst, arith}
use Rattle.proof_log.specs.Outcomes.{TakesConflict}
use Rattle.proof_log.proofs.AnswerLemmas.{additions_within}
use Rattle.proof_log.proofs.attempt.Attempt.run.Goals as goal

pub returns-in_ok-derivation-in-Refuted-clause-answer :
    goal.returns-in_ok-derivation-in-Refuted-clause-answer
returns-in_ok-derivation-in-Refuted-clause-answer g c =
    let one : 1 ≤ c.args.budget = subst (TakesConflict c.args.budget) c.in-Refuted.is c.in_ok-search_on.ensures.refuted in
    (omega (arith, one), omega (arith, additions_within c.in_ok-derivation-in-Refuted.derivation, c.in_ok-derivation-in-Refuted.ensures, c.in_ok-search_on.ensures.within))
