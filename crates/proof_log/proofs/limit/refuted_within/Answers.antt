use Rattle.std.proofs.Common.{rules, ◌≤◌, arith}
use Rattle.proof_log.proofs.AnswerLemmas.{additions_within}
use Rattle.proof_log.proofs.limit.refuted_within.Goals as goal

pub returns : goal.returns
returns c =
    let some : 1 ≤ c.args.budget = search rules in
    (some, omega (arith, additions_within c.in_ok-kept.kept, c.in_ok-kept.ensures))
