use Rattle.std.proofs.Common.{◌≡◌}
use Rattle.result_ledger.specs.Ledger.{derivations_in}
use Rattle.result_ledger.proofs.derivations.take_derivations.Given as goal

abbrev pub invariant-loop-slot : goal.invariant-loop-slot
invariant-loop-slot l = l.derivations.items ≡ derivations_in l.yielded
