use Rattle.std.proofs.Common.{◌∙◌}
use Rattle.std.proofs.lemmas.Result.{err_from_is_err_and}
use Rattle.dimacs.proofs.SinkLemmas.{take-rest, front-take, le-rest}
use Rattle.dimacs.proofs.sink.write_whole.Goals as goal

pub returns-in_err-count-clause-front : goal.returns-in_err-count-clause-front
returns-in_err-count-clause-front g c =
    let p = err_from_is_err_and c.from_residual.result c.from_residual.ensures.1 in
    rw (p.1) (front-take _ _ _ c.loop-taken.taken (c.in_err-count.ensures.unchanged ∙ c.loop-taken.invariant.written))

pub loop-taken-preserved : goal.loop-taken-preserved
loop-taken-preserved g c = record {
  in_bytes = le-rest _ _ _ c.loop-taken.invariant.in_bytes c.in_ok-count.ensures.within;
  written = take-rest _ _ _ _ _ _ c.loop-taken.invariant.written c.in_ok-count.ensures.taken;
  failures = c.in_ok-count.ensures.well ∙ c.loop-taken.invariant.failures;
  same = c.write.ensures.same ∙ c.loop-taken.invariant.same;
}
