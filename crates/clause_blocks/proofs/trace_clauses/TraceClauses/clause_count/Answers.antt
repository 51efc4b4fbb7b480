use Rattle.std.proofs.Common.{◌≡◌, ◌∙◌, length, ap, arith}
use Rattle.clause_blocks.specs.Clauses.{clauses_of}
use Rattle.clause_blocks.specs.Pieces.{clauses_before}
use Rattle.clause_blocks.proofs.ClauseList.ListLemmas.{all_pieces}
use Rattle.clause_blocks.proofs.trace_clauses.TraceClauses.clause_count.Goals as goal

pub returns-clause-count : goal.returns-clause-count
returns-clause-count c =
    let t = c.args.self.now in
    c.start.ensures ∙ ap (clauses_before t) c.pieces.ensures ∙ ap length (all_pieces t)

pub returns-clause-few : goal.returns-clause-few
returns-clause-few c =
    let t = c.args.self.now in
    let all : c.start.result ≡ length (clauses_of t) = c.start.ensures ∙ ap (clauses_before t) c.pieces.ensures ∙ ap length (all_pieces t) in
    omega (arith, all, c.few_clauses.ensures t c.recall_limits.ensures.trace c.recall_limits.ensures.few)
