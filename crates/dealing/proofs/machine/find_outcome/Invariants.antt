use Rattle.std.proofs.Common.{◌≡◌, drop}
use Rattle.dealing.specs.Machine.{outcome_under}
use Rattle.dealing.proofs.machine.find_outcome.Given as goal

abbrev pub invariant-loop-one : goal.invariant-loop-one
invariant-loop-one l = outcome_under l.ticket (drop l.one-index l.given) ≡ outcome_under l.ticket l.given
