use Rattle.std.proofs.Common.{◌≡◌, take}
use Rattle.lrat_check.specs.LratWritten.{canonical_derivation}
use Rattle.lrat_check.proofs.lrat_writer.write_lrat.Given as goal

abbrev pub invariant-loop-step : goal.invariant-loop-step
invariant-loop-step l = l.text.items ≡ canonical_derivation (take l.step-index l.step-items)
