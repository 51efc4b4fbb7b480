use Rattle.std.proofs.Common.{take}
use Rattle.std.specs.List.{All}
use Rattle.reason_counting.specs.CountedMembers.{IsOfStretches, IsStretchKept}
use Rattle.reason_counting.specs.DistinctSources.{HasAll, KeptOnly}
use Rattle.reason_counting.proofs.counted_members.keep_stretches.Given as goal

abbrev pub invariant-loop-stretch : goal.invariant-loop-stretch
invariant-loop-stretch l = HasAll l.fn.kept l.kept × All (IsStretchKept l.writers l.location l.kept) (take l.stretch-index l.stretches) × KeptOnly l.fn.kept l.kept (IsOfStretches l.writers l.location l.stretches) (λ a. ⊥)
