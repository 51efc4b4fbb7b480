use Rattle.std.proofs.Common.{List, sym, subst, take, take_all}
use Rattle.std.specs.List.{All}
use Rattle.writer_table.specs.declared.runs.Run.{Run}
use Rattle.reason_clauses.proofs.SourceLemmas.{all_more}
use Rattle.reason_counting.specs.CountedMembers.{IsOfRuns, IsRunKept}
use Rattle.reason_counting.proofs.KeptLemmas.{kept_none, runs_next}
use Rattle.reason_counting.proofs.MemberLemmas.{all_none, has_same, has_over, runs_kept}
use Rattle.reason_counting.proofs.counted_members.keep_runs.Goals as goal

pub loop-run-init : goal.loop-run-init
loop-run-init c = (has_same c.args.kept.now, all_none (IsRunKept c.args.kept.now c.args.stretch), kept_none c.args.kept.now (IsOfRuns c.args.stretch c.args.runs.now) (λ a. ⊥))

pub loop-run-preserved : goal.loop-run-preserved
loop-run-preserved c = (
  has_over c.args.kept.now c.loop-run.kept c.keep_run.new.kept c.loop-run.invariant.0 c.in_ok-keep_run.ensures.more,
  all_more (IsRunKept c.keep_run.new.kept c.args.stretch) c.args.runs.now c.loop-run.run-index c.run-item.result c.loop-run-test.true (runs_kept c.loop-run.kept c.keep_run.new.kept c.args.stretch (take c.loop-run.run-index c.args.runs.now) c.in_ok-keep_run.ensures.more c.loop-run.invariant.1) (subst (λ (r : Run). IsRunKept c.keep_run.new.kept c.args.stretch r) c.run-item.is c.in_ok-keep_run.ensures.there),
  runs_next c.args.stretch c.args.runs.now c.run-item.result c.args.kept.now c.loop-run.kept c.keep_run.new.kept (c.loop-run.run-index, c.loop-run-test.true, sym c.run-item.is) c.loop-run.invariant.2 c.in_ok-keep_run.ensures.only,
)

pub returns-clause-more : goal.returns-clause-more
returns-clause-more c = c.loop-run.invariant.0

pub returns-clause-there : goal.returns-clause-there
returns-clause-there c = subst (λ (l : List Run). All (IsRunKept c.loop-run.kept c.args.stretch) l) (take_all c.loop-run.run-index c.args.runs.now c.loop-run-test.false) c.loop-run.invariant.1

pub returns-clause-only : goal.returns-clause-only
returns-clause-only c = c.loop-run.invariant.2
