use Rattle.std.proofs.Common.{take}
use Rattle.std.specs.List.{All}
use Rattle.reason_counting.specs.CountedMembers.{IsOfRuns, IsRunKept}
use Rattle.reason_counting.specs.DistinctSources.{HasAll, KeptOnly}
use Rattle.reason_counting.proofs.counted_members.keep_runs.Given as goal

abbrev pub invariant-loop-run : goal.invariant-loop-run
invariant-loop-run l = HasAll l.fn.kept l.kept × All (IsRunKept l.kept l.stretch) (take l.run-index l.runs) × KeptOnly l.fn.kept l.kept (IsOfRuns l.stretch l.runs) (λ a. ⊥)
