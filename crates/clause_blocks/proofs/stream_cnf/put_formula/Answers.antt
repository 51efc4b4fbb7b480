use Rattle.std.proofs.Common.{◌≡◌, ◌++◌, ◌∙◌, ap, subst}
use Rattle.std.specs.List.{flat_map}
use Rattle.dimacs.specs.CnfText.{header_line, clause_line, cnf_text}
use Rattle.dimacs.specs.Sink.{AppendsFront}
use Rattle.dimacs.proofs.ChunkLemmas.{sent_last, on_err}
use Rattle.var_layout.specs.FinalVariables.{variable_count}
use Rattle.clause_blocks.specs.Clauses.{clauses_of, formula_of}
use Rattle.clause_blocks.proofs.stream_cnf.put_formula.Goals as goal

pub returns-in_err-put_all_pieces-clause-front : goal.returns-in_err-put_all_pieces-clause-front
returns-in_err-put_all_pieces-clause-front g c =
    let t = c.args.clauses.now in
    let variables : c.count-variables.result ≡ variable_count t = c.count-variables.ensures ∙ ap variable_count c.layout.ensures in
    let text : c.in_ok-writer.writer ++ flat_map clause_line (clauses_of t) ≡ cnf_text (formula_of t) =
    ap (λ head. head ++ flat_map clause_line (clauses_of t)) c.in_ok-writer.ensures
    ∙ (λ p. header_line (variables p) (c.clause_count.ensures.count p) ++ flat_map clause_line (clauses_of t)) in
    on_err c.from_residual-in_err-put_all_pieces.result
    (subst (λ whole. AppendsFront (g.W.Sink.written c.args.sink.now) (g.W.Sink.written c.put_all_pieces.new.sink) whole) text c.in_err-put_all_pieces.ensures.front)

pub returns-in_err-finish-clause-front : goal.returns-in_err-finish-clause-front
returns-in_err-finish-clause-front g c =
    let t = c.args.clauses.now in
    let variables : c.count-variables.result ≡ variable_count t = c.count-variables.ensures ∙ ap variable_count c.layout.ensures in
    let text : c.in_ok-writer.writer ++ flat_map clause_line (clauses_of t) ≡ cnf_text (formula_of t) =
    ap (λ head. head ++ flat_map clause_line (clauses_of t)) c.in_ok-writer.ensures
    ∙ (λ p. header_line (variables p) (c.clause_count.ensures.count p) ++ flat_map clause_line (clauses_of t)) in
    on_err c.from_residual-in_err-finish.result
    (subst (λ whole. AppendsFront (g.W.Sink.written c.args.sink.now) (g.W.Sink.written c.finish.new.sink) whole) text
    (sent_last _ _ _ _ _ c.in_ok-put_all_pieces.ensures.sent c.in_err-finish.ensures.front))
