use Rattle.std.proofs.Common.{◌≡◌, true, take}
use Rattle.lrat_check.specs.Derivation.{are_steps}
use Rattle.lrat_check.proofs.derivation.recall_steps.Given as goal

abbrev pub invariant-loop-step : goal.invariant-loop-step
invariant-loop-step l = are_steps (take l.step-index l.steps) ≡ true
