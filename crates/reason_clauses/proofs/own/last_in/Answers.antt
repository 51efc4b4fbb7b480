use Rattle.std.proofs.Common.{◌≡◌, ◌⊎◌, sym, subst, take_all}
use Rattle.writer_table.specs.Runs.{IsIn}
use Rattle.reason_clauses.proofs.OwnLemmas.{in_more, member_more}
use Rattle.reason_clauses.proofs.own.last_in.Goals as goal

pub loop-run-preserved : goal.loop-run-preserved
loop-run-preserved c = (
  c.later_of-last.ensures.within c.loop-run.invariant.0,
  in_more c.args.runs.now c.loop-run.run-index c.run-item.result c.args.process c.loop-run.last c.later_of-last.result c.args.bound c.loop-run-test.true (sym c.run-item.is) c.later_of-last.ensures.least c.later_of-last.ensures.above c.loop-run.invariant.1,
  member_more c.args.runs.now c.loop-run.run-index c.run-item.result c.args.process c.loop-run.last c.later_of-last.result c.loop-run-test.true (sym c.run-item.is) c.later_of-last.ensures.member c.loop-run.invariant.2,
)

pub returns-clause-above : goal.returns-clause-above
returns-clause-above c k there low = c.loop-run.invariant.1 k (subst (λ l. IsIn l c.args.process k) (sym (take_all c.loop-run.run-index c.args.runs.now c.loop-run-test.false)) there) low

pub returns-clause-member : goal.returns-clause-member
returns-clause-member c = subst (λ l. (c.loop-run.last ≡ 0) ⊎ IsIn l c.args.process c.loop-run.last) (take_all c.loop-run.run-index c.args.runs.now c.loop-run-test.false) c.loop-run.invariant.2
