use Rattle.std.proofs.Common.{List, subst}
use Rattle.std.specs.List.{All}
use Rattle.writer_table.specs.declared.runs.Run.{Run}
use Rattle.reason_counting.specs.CountedMembers.{IsOfRuns, IsRunKept}
use Rattle.reason_counting.specs.DistinctSources.{KeptOnly}
use Rattle.reason_counting.proofs.counted_members.keep_stretch.Goals as goal

pub returns-clause-there : goal.returns-clause-there
returns-clause-there c = subst (λ (l : List Run). All (IsRunKept c.keep_runs.new.kept c.args.stretch) l) c.runs-runs.ensures c.in_ok-keep_runs.ensures.there

pub returns-clause-only : goal.returns-clause-only
returns-clause-only c = subst (λ (l : List Run). KeptOnly c.args.kept.now c.keep_runs.new.kept (IsOfRuns c.args.stretch l) (λ a. ⊥)) c.runs-runs.ensures c.in_ok-keep_runs.ensures.only
