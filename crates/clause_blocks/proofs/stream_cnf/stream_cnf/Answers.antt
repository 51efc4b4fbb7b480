use Rattle.std.proofs.Common.{OnErr, subst}
use Rattle.dimacs.specs.CnfText.{cnf_text}
use Rattle.dimacs.specs.Sink.{AppendsFront}
use Rattle.clause_blocks.specs.Clauses.{formula_of}
use Rattle.clause_blocks.proofs.stream_cnf.stream_cnf.Goals as goal

pub returns-clause-front : goal.returns-clause-front
returns-clause-front g c =
    subst (λ t. OnErr c.put_formula.result (AppendsFront (g.W.Sink.written c.args.sink.now) (g.W.Sink.written c.put_formula.new.sink) (cnf_text (formula_of t)))) c.in_ok-clauses.ensures c.put_formula.ensures.front
