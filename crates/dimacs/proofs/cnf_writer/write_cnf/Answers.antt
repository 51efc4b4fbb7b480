use Rattle.std.proofs.Common.{◌≡◌, ◌++◌, ◌∙◌, length, ap, subst}
use Rattle.std.specs.List.{flat_map}
use Rattle.dimacs.specs.CnfText.{header_line, clause_line, cnf_text}
use Rattle.dimacs.specs.Sink.{AppendsFront}
use Rattle.dimacs.proofs.ChunkLemmas.{sent_last, on_err}
use Rattle.dimacs.proofs.cnf_writer.write_cnf.Goals as goal

pub returns-in_err-finish-clause-front : goal.returns-in_err-finish-clause-front
returns-in_err-finish-clause-front g c =
    let lines = flat_map clause_line c.clauses-clauses.result.now in
    let text : c.in_ok-writer.writer ++ lines ≡ cnf_text c.args.formula.now =
    ap (λ head. head ++ lines) c.in_ok-writer.ensures
    ∙ (λ p. header_line (c.variables.ensures p) (length (c.clauses-clauses.ensures p)) ++ flat_map clause_line (c.clauses-clauses.ensures p)) in
    on_err c.from_residual-in_err-finish.result
    (subst (λ whole. AppendsFront (g.W.Sink.written c.args.sink.now) (g.W.Sink.written c.finish.new.sink) whole) text
    (sent_last _ _ _ _ _ c.in_ok-put.ensures.sent c.in_err-finish.ensures.front))
