use Rattle.std.proofs.Common.{◌≡◌, ◌∷◌, [], ◌++◌, neg_ℤ, take, subst}
use Rattle.std.proofs.lemmas.Result.{IfOk-weaker}
use Rattle.dimacs.specs.CnfText.{clause_line}
use Rattle.dimacs.specs.Sink.{AppendsFront, IsSent}
use Rattle.dimacs.proofs.ChunkLemmas.{both_sent, first_front, second_front, on_err, on_err_map}
use Rattle.dimacs.proofs.cnf_writer.put_each_line.Goals as goal

pub returns-in_err-kept-clause-front : goal.returns-in_err-kept-clause-front
returns-in_err-kept-clause-front g c =
    let opposite : c.if_true.result ≡ (neg_ℤ c.args.literals.first ∷ neg_ℤ c.args.literals.second ∷ c.args.literals.third ∷ []) = c.if_true.ensures in
    let head = take c.args.at c.args.buffer.now in
    on_err c.from_residual.result
    (first_front head (clause_line (neg_ℤ c.args.literals.first ∷ neg_ℤ c.args.literals.second ∷ c.args.literals.third ∷ [])) (clause_line (c.args.literals.first ∷ c.args.literals.second ∷ neg_ℤ c.args.literals.third ∷ [])) _ _
    (subst (λ l. AppendsFront (g.W.Sink.written c.args.sink.now) (g.W.Sink.written c.put_line.new.sink) (head ++ clause_line l)) opposite c.in_err-kept.ensures.front))

pub returns-clause-sent : goal.returns-clause-sent
returns-clause-sent g c =
    let opposite : c.if_true.result ≡ (neg_ℤ c.args.literals.first ∷ neg_ℤ c.args.literals.second ∷ c.args.literals.third ∷ []) = c.if_true.ensures in
    let same : c.if_false.result ≡ (c.args.literals.first ∷ c.args.literals.second ∷ neg_ℤ c.args.literals.third ∷ []) = c.if_false.ensures in
    let head = take c.args.at c.args.buffer.now in
    let kept = take c.in_ok-kept.kept c.put_line.new.buffer in
    IfOk-weaker c.put_line-2.result _ _ (λ end t.
    both_sent head (clause_line (neg_ℤ c.args.literals.first ∷ neg_ℤ c.args.literals.second ∷ c.args.literals.third ∷ [])) (clause_line (c.args.literals.first ∷ c.args.literals.second ∷ neg_ℤ c.args.literals.third ∷ [])) _ _ _ kept (take end c.put_line-2.new.buffer)
    (subst (λ l. IsSent (g.W.Sink.written c.args.sink.now) (g.W.Sink.written c.put_line.new.sink) kept (head ++ clause_line l)) opposite c.in_ok-kept.ensures.sent)
    (subst (λ l. IsSent (g.W.Sink.written c.put_line.new.sink) (g.W.Sink.written c.put_line-2.new.sink) (take end c.put_line-2.new.buffer) (kept ++ clause_line l)) same t)) c.put_line-2.ensures.sent

pub returns-clause-front : goal.returns-clause-front
returns-clause-front g c =
    let opposite : c.if_true.result ≡ (neg_ℤ c.args.literals.first ∷ neg_ℤ c.args.literals.second ∷ c.args.literals.third ∷ []) = c.if_true.ensures in
    let same : c.if_false.result ≡ (c.args.literals.first ∷ c.args.literals.second ∷ neg_ℤ c.args.literals.third ∷ []) = c.if_false.ensures in
    let head = take c.args.at c.args.buffer.now in
    let kept = take c.in_ok-kept.kept c.put_line.new.buffer in
    on_err_map c.put_line-2.result (λ f.
    second_front head (clause_line (neg_ℤ c.args.literals.first ∷ neg_ℤ c.args.literals.second ∷ c.args.literals.third ∷ [])) (clause_line (c.args.literals.first ∷ c.args.literals.second ∷ neg_ℤ c.args.literals.third ∷ [])) _ _ _ kept
    (subst (λ l. IsSent (g.W.Sink.written c.args.sink.now) (g.W.Sink.written c.put_line.new.sink) kept (head ++ clause_line l)) opposite c.in_ok-kept.ensures.sent)
    (subst (λ l. AppendsFront (g.W.Sink.written c.put_line.new.sink) (g.W.Sink.written c.put_line-2.new.sink) (kept ++ clause_line l)) same f)) c.put_line-2.ensures.front
