use Rattle.std.proofs.Common.{◌≡◌, drop}
use Rattle.batch_report.specs.Outcome.{tally_with_all}
use Rattle.batch_report.proofs.tally.VerdictTally.with_all.Given as goal

abbrev pub invariant-loop-verdict : goal.invariant-loop-verdict
invariant-loop-verdict l = tally_with_all l.tally (drop l.verdict-index l.verdicts) ≡ tally_with_all l.fn.self l.verdicts
