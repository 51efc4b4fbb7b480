use Rattle.std.proofs.Common.{◌<◌, ◌≤◌, ◌+◌, ◌-◌, ◌∙◌, length, ap, arith}
use Rattle.std.specs.Prelude.{slice_get}
use Rattle.clause_meaning.specs.Meanings.{meanings_of_run}
use Rattle.clause_meaning.specs.Runs.{runs}
use Rattle.clause_meaning.specs.Starts.{start_of}
use Rattle.clause_meaning.proofs.StartLemmas.{none_behind, said_at}
use Rattle.clause_meaning.proofs.clause_runs.ClauseRuns.meaning_at.Goals as goal

pub returns-then-place-end : goal.returns-then-place-end
returns-then-place-end c =
    let t = c.args.self.now in
    let k = c.loop-k.k in
    let low : c.start-first.result ≤ c.args.place = omega (arith, c.start-first.ensures, c.loop-k.invariant) in
    let high : c.args.place < start_of t (k + 1) = omega (arith, c.end_of-end.ensures, c.if-place-end.true) in
    c.meaning_in.ensures ∙ ap (λ u. slice_get (meanings_of_run u c.run.result) (c.args.place - c.start-first.result)) c.self.view_is
    ∙ said_at t k c.run.result c.args.place c.start-first.result c.run.ensures c.start-first.ensures low high

pub loop-k-preserved : goal.loop-k-preserved
loop-k-preserved c = omega (arith, c.end_of-end.ensures, c.if-place-end.false)

pub returns : goal.returns
returns c =
    let t = c.args.self.now in
    let all : length (runs t) ≤ c.loop-k.k = omega (arith, c.loop-k-test.false, c.count-k-end.ensures) in
    none_behind t c.loop-k.k c.args.place all c.loop-k.invariant
