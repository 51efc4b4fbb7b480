use Rattle.std.proofs.Common.{rules, ◌≡◌, ◌<◌, ◌≤◌, ◌+◌, ◌∙◌, length, refl, sym, ap, subst, arith}
use Rattle.dimacs.specs.Assignment.{value_of}
use Rattle.dimacs.specs.Models.{IsModel, IsFirstFalse}
use Rattle.dimacs.proofs.ModelLemmas.{no_model}
use Rattle.trace_semantics.specs.Trace.{operation_count}
use Rattle.clause_blocks.specs.Clauses.{pieces, clauses_of}
use Rattle.clause_blocks.specs.Pieces.{clauses_in}
use Rattle.clause_blocks.proofs.ClauseList.ListLemmas.{piece_at, all_pieces}
use Rattle.clause_blocks.proofs.ClauseList.PartLemmas.{clauses_to, first_in_piece, first_within, piece_too}
use Rattle.clause_blocks.proofs.listed_clauses.TraceClausesClauseList.eval.Goals as goal

pub overflow_add-result : goal.overflow_add-result
overflow_add-result c =
    let t = c.args.self.now in
    let value = value_of c.args.assignment.now in
    let found = c.in-Err.found.clause in
    let same : clauses_in (operation_count t) c.piece.result ≡ piece_at t c.loop-k.k = c.piece.ensures in
    let high : c.loop-k.k < length (pieces t) = search rules in
    let there : IsFirstFalse value (clauses_of t) (c.start.result + found) = subst (λ m. IsFirstFalse value (clauses_of t) (m + found)) (sym c.start.ensures)
    (first_in_piece t value c.loop-k.k found high c.loop-k.invariant (subst (λ l. IsFirstFalse value l found) same c.in-Err.ensures.first)) in
    let few : length (clauses_of t) ≤ 16777216 = c.few_clauses.ensures t c.recall_limits.ensures.trace c.recall_limits.ensures.few in
    omega (arith, few, first_within value (clauses_of t) (c.start.result + found) there)

pub returns-in-Err-clause-model : goal.returns-in-Err-clause-model
returns-in-Err-clause-model c =
    let t = c.args.self.now in
    let value = value_of c.args.assignment.now in
    let found = c.in-Err.found.clause in
    let same : clauses_in (operation_count t) c.piece.result ≡ piece_at t c.loop-k.k = c.piece.ensures in
    let high : c.loop-k.k < length (pieces t) = search rules in
    let there : IsFirstFalse value (clauses_of t) (c.start.result + found) = subst (λ m. IsFirstFalse value (clauses_of t) (m + found)) (sym c.start.ensures)
    (first_in_piece t value c.loop-k.k found high c.loop-k.invariant (subst (λ l. IsFirstFalse value l found) same c.in-Err.ensures.first)) in
    (λ no. absurd cc, λ model. absurd (no_model value (clauses_of t) (c.start.result + found) there model))

pub returns-in-Err-clause-first : goal.returns-in-Err-clause-first
returns-in-Err-clause-first c =
    let t = c.args.self.now in
    let value = value_of c.args.assignment.now in
    let found = c.in-Err.found.clause in
    let same : clauses_in (operation_count t) c.piece.result ≡ piece_at t c.loop-k.k = c.piece.ensures in
    let high : c.loop-k.k < length (pieces t) = search rules in
    let there : IsFirstFalse value (clauses_of t) (c.start.result + found) = subst (λ m. IsFirstFalse value (clauses_of t) (m + found)) (sym c.start.ensures)
    (first_in_piece t value c.loop-k.k found high c.loop-k.invariant (subst (λ l. IsFirstFalse value l found) same c.in-Err.ensures.first)) in
    there

pub loop-k-preserved : goal.loop-k-preserved
loop-k-preserved c =
    let t = c.args.self.now in
    let value = value_of c.args.assignment.now in
    let same : clauses_in (operation_count t) c.piece.result ≡ piece_at t c.loop-k.k = c.piece.ensures in
    piece_too t value c.loop-k.k c.loop-k.invariant (subst (IsModel value) same c.in_default.ensures.model)

pub returns-clause-model : goal.returns-clause-model
returns-clause-model c =
    let t = c.args.self.now in
    let end : c.loop-k.k ≡ length (pieces t) = search rules in
    (λ _. subst (IsModel (value_of c.args.assignment.now)) (ap (clauses_to t) end ∙ all_pieces t) c.loop-k.invariant, λ _. refl)
