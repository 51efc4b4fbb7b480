use Rattle.std.proofs.Common.{take}
use Rattle.reason_counting.specs.Tallies.{IsTallyOf}
use Rattle.reason_counting.proofs.tally.tally_of_operations.Given as goal

abbrev pub invariant-loop-k : goal.invariant-loop-k
invariant-loop-k l = IsTallyOf l.location l.value (take l.k l.operations) l.tally
