use Rattle.std.proofs.Common.{rules, ◌≡◌, ◌≤◌, ◌-◌, ◌++◌, ◌∙◌, ap, subst, arith}
use Rattle.std.specs.List.{flat_map, range_with_len}
use Rattle.dimacs.specs.CnfText.{clause_line}
use Rattle.dimacs.specs.Sink.{AppendsFront, IsSent}
use Rattle.dimacs.proofs.ChunkLemmas.{on_err}
use Rattle.trace_semantics.specs.Trace.{operation_count}
use Rattle.clause_blocks.specs.Blocks.{transitivity_from}
use Rattle.clause_blocks.specs.LineRuns.{lines_in}
use Rattle.clause_blocks.proofs.InPieces.LineRunLemmas.{all_lines}
use Rattle.clause_blocks.proofs.InPieces.RangeSentLemmas.{block_sent, block_front, stopped_front}
use Rattle.clause_blocks.proofs.line_runs.put_rounds.Goals as goal

pub returns-in_err-make_runs-clause-front : goal.returns-in_err-make_runs-clause-front
returns-in_err-make_runs-clause-front g c =
    let n = operation_count c.args.layout.now in
    let within : c.loop-first.first ≤ n = omega (arith, c.loop-first.invariant.high, c.operations-operations.ensures) in
    on_err c.from_residual.result
    (subst (λ text. AppendsFront (g.W.Sink.written c.args.sink.now) (g.W.Sink.written c.loop-first.sink) text) (all_lines c.args.writer.now (transitivity_from n) n)
    (stopped_front c.args.writer.now (transitivity_from n) 0 c.loop-first.first n _ _ c.loop-first.writer (omega arith) within c.loop-first.invariant.sent))

pub returns-in_err-put_runs-clause-front : goal.returns-in_err-put_runs-clause-front
returns-in_err-put_runs-clause-front g c =
    let n = operation_count c.args.layout.now in
    let end = c.share_operations-end.result in
    let within : end ≤ n = omega (arith, c.share_operations-end.ensures.high, c.operations-operations.ensures) in
    let made : flat_map lines_in c.make_runs.new.runs ≡ flat_map clause_line (flat_map (transitivity_from n) (range_with_len c.loop-first.first (end - c.loop-first.first))) =
    c.in_ok-make_runs.ensures ∙ ap (λ l. flat_map clause_line (flat_map (transitivity_from n) l)) c.share_operations-end.ensures.shared in
    on_err c.from_residual-in_err-put_runs.result
    (subst (λ text. AppendsFront (g.W.Sink.written c.args.sink.now) (g.W.Sink.written c.put_runs.new.sink) text) (all_lines c.args.writer.now (transitivity_from n) n)
    (block_front c.args.writer.now (transitivity_from n) 0 c.loop-first.first end n _ _ _ c.loop-first.writer (omega arith) c.share_operations-end.ensures.low within c.loop-first.invariant.sent
    (subst (λ lines. AppendsFront (g.W.Sink.written c.loop-first.sink) (g.W.Sink.written c.put_runs.new.sink) (c.loop-first.writer ++ lines)) made c.in_err-put_runs.ensures.front)))

pub loop-first-preserved : goal.loop-first-preserved
loop-first-preserved g c =
    let n = operation_count c.args.layout.now in
    let end = c.share_operations-end.result in
    let made : flat_map lines_in c.make_runs.new.runs ≡ flat_map clause_line (flat_map (transitivity_from n) (range_with_len c.loop-first.first (end - c.loop-first.first))) =
    c.in_ok-make_runs.ensures ∙ ap (λ l. flat_map clause_line (flat_map (transitivity_from n) l)) c.share_operations-end.ensures.shared in
    record {
      sent = block_sent c.args.writer.now (transitivity_from n) 0 c.loop-first.first end _ _ _ c.loop-first.writer c.put_runs.new.writer (omega arith) c.share_operations-end.ensures.low c.loop-first.invariant.sent
          (subst (λ lines. IsSent (g.W.Sink.written c.loop-first.sink) (g.W.Sink.written c.put_runs.new.sink) c.put_runs.new.writer (c.loop-first.writer ++ lines)) made c.in_ok-put_runs.ensures.sent);
      failures = c.in_ok-put_runs.ensures.well ∙ c.loop-first.invariant.failures;
      same = c.put_runs.ensures.same ∙ c.loop-first.invariant.same;
      high = c.share_operations-end.ensures.high;
      runs = search rules;
    }
