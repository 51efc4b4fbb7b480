use Rattle.std.proofs.Common.{rules, ◌≡◌, ◌∙◌, ◌++◌, take, ap, subst}
use Rattle.dimacs.specs.Sink.{AppendsFront}
use Rattle.dimacs.proofs.ChunkLemmas.{on_err, on_err_map}
use Rattle.dimacs.proofs.SinkLemmas.{front-append, front-after}
use Rattle.dimacs.proofs.cnf_writer.CnfWriter.put_text.Goals as goal

pub returns-in_err-write_whole-clause-front : goal.returns-in_err-write_whole-clause-front
returns-in_err-write_whole-clause-front g c =
    let kept : take c.self.inside.end c.as_slice.result.now ≡ c.args.self.now = search rules in
    on_err c.from_residual.result
    (front-append _ _ _ c.args.text.now (subst (λ bytes. AppendsFront (g.W.Sink.written c.args.sink.now) (g.W.Sink.written c.write_whole.new.sink) bytes) kept c.in_err-write_whole.ensures.front))

pub returns-clause-front : goal.returns-clause-front
returns-clause-front g c =
    let kept : take c.self.inside.end c.as_slice.result.now ≡ c.args.self.now = search rules in
    on_err_map c.write_whole-2.result (front-after _ _ _ c.args.self.now c.args.text.now (c.in_ok-write_whole.ensures.whole ∙ ap (λ bytes. g.W.Sink.written c.args.sink.now ++ bytes) kept)) c.write_whole-2.ensures.front
