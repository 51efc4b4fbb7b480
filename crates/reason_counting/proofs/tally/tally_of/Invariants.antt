use Rattle.std.proofs.Common.{take}
use Rattle.std.specs.List.{flat_map}
use Rattle.trace_semantics.specs.declared.trace.Process.{Process}
use Rattle.reason_counting.specs.Tallies.{IsTallyOf}
use Rattle.reason_counting.proofs.tally.tally_of.Given as goal

abbrev pub invariant-loop-q : goal.invariant-loop-q
invariant-loop-q l = IsTallyOf l.location l.value (flat_map (λ (p : Process). p.operations) (take l.q l.trace.processes)) l.tally
