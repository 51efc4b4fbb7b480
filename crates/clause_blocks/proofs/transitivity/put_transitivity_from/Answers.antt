use Rattle.std.proofs.Common.{rules, ◌≤◌, ◌+◌, ◌∙◌, refl}
use Rattle.dimacs.proofs.ChunkLemmas.{on_err}
use Rattle.trace_semantics.specs.Trace.{operation_count}
use Rattle.clause_blocks.proofs.InPieces.RangeSentLemmas.{of_pair, range_begun, range_front, range_sent}
use Rattle.clause_blocks.proofs.transitivity.put_transitivity_from.Goals as goal

pub loop-j-init : goal.loop-j-init
loop-j-init g c =
    let n = operation_count c.args.layout.now in
    record {
      sent = range_begun c.args.writer.now (of_pair n c.args.i) (c.args.i + 1) (g.W.Sink.written c.args.sink.now) (c.args.i + 1) refl;
      failures = refl;
      same = refl;
    }

pub returns-in_err-put_of_pair-clause-front : goal.returns-in_err-put_of_pair-clause-front
returns-in_err-put_of_pair-clause-front g c =
    let n = operation_count c.args.layout.now in
    let high : c.loop-j.j + 1 ≤ n = search rules in
    on_err c.from_residual.result
    (range_front c.args.writer.now (of_pair n c.args.i) (c.args.i + 1) c.loop-j.j n _ _ _ c.loop-j.writer c.loop-j.auto.j high c.loop-j.invariant.sent c.in_err-put_of_pair.ensures.front)

pub loop-j-preserved : goal.loop-j-preserved
loop-j-preserved g c =
    let n = operation_count c.args.layout.now in
    record {
      sent = range_sent c.args.writer.now (of_pair n c.args.i) (c.args.i + 1) c.loop-j.j _ _ _ c.loop-j.writer c.put_of_pair.new.writer c.loop-j.auto.j c.loop-j.invariant.sent c.in_ok-put_of_pair.ensures.sent;
      failures = c.in_ok-put_of_pair.ensures.well ∙ c.loop-j.invariant.failures;
      same = c.put_of_pair.ensures.same ∙ c.loop-j.invariant.same;
    }
