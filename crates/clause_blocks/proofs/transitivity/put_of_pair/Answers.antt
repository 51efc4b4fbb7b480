use Rattle.std.proofs.Common.{rules, ◌≡◌, ◌≤◌, ◌+◌, ◌++◌, ◌∙◌, refl, subst}
use Rattle.std.specs.List.{flat_map}
use Rattle.dimacs.specs.CnfText.{clause_line}
use Rattle.dimacs.specs.Sink.{AppendsFront, IsSent}
use Rattle.dimacs.proofs.ChunkLemmas.{on_err}
use Rattle.trace_semantics.specs.Trace.{operation_count}
use Rattle.clause_blocks.specs.Blocks.{no_cycle}
use Rattle.clause_blocks.proofs.InPieces.RangeSentLemmas.{cycle, range_begun, range_front, range_sent}
use Rattle.clause_blocks.proofs.transitivity.put_of_pair.Goals as goal

pub loop-k-init : goal.loop-k-init
loop-k-init g c =
    let n = operation_count c.args.layout.now in
    record {
      sent = range_begun c.args.writer.now (no_cycle n c.args.i c.args.j) (c.args.j + 1) (g.W.Sink.written c.args.sink.now) (c.args.j + 1) refl;
      failures = refl;
      same = refl;
    }

pub returns-in_err-put_agreement-clause-front : goal.returns-in_err-put_agreement-clause-front
returns-in_err-put_agreement-clause-front g c =
    let n = operation_count c.args.layout.now in
    let high : c.loop-k.k + 1 ≤ n = search rules in
    let same : cycle c.order_lit-ij.result c.order_lit-jk.result c.order_lit-ik.result ≡ no_cycle n c.args.i c.args.j c.loop-k.k =
    λ p. cycle (c.order_lit-ij.ensures p) (c.order_lit-jk.ensures p) (c.order_lit-ik.ensures p) in
    on_err c.from_residual.result
    (range_front c.args.writer.now (no_cycle n c.args.i c.args.j) (c.args.j + 1) c.loop-k.k n _ _ _ c.loop-k.writer c.loop-k.auto.k high c.loop-k.invariant.sent
    (subst (λ clauses. AppendsFront (g.W.Sink.written c.loop-k.sink) (g.W.Sink.written c.put_agreement.new.sink) (c.loop-k.writer ++ flat_map clause_line clauses)) same c.in_err-put_agreement.ensures.front))

pub loop-k-preserved : goal.loop-k-preserved
loop-k-preserved g c =
    let n = operation_count c.args.layout.now in
    let same : cycle c.order_lit-ij.result c.order_lit-jk.result c.order_lit-ik.result ≡ no_cycle n c.args.i c.args.j c.loop-k.k =
    λ p. cycle (c.order_lit-ij.ensures p) (c.order_lit-jk.ensures p) (c.order_lit-ik.ensures p) in
    record {
      sent = range_sent c.args.writer.now (no_cycle n c.args.i c.args.j) (c.args.j + 1) c.loop-k.k _ _ _ c.loop-k.writer c.put_agreement.new.self c.loop-k.auto.k c.loop-k.invariant.sent
          (subst (λ clauses. IsSent (g.W.Sink.written c.loop-k.sink) (g.W.Sink.written c.put_agreement.new.sink) c.put_agreement.new.self (c.loop-k.writer ++ flat_map clause_line clauses)) same c.in_ok-put_agreement.ensures.sent);
      failures = c.in_ok-put_agreement.ensures.well ∙ c.loop-k.invariant.failures;
      same = c.put_agreement.ensures.same ∙ c.loop-k.invariant.same;
    }
