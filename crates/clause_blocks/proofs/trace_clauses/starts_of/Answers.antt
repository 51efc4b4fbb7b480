use Rattle.std.proofs.Common.{rules, ◌≡◌, ◌≤◌, ◌+◌, ◌∷◌, [], ◌++◌, ◌∙◌, length, map, sym, ap, arith}
use Rattle.std.specs.List.{range_with_len}
use Rattle.std.proofs.lemmas.List.FromFn.{map-range_with_len_more}
use Rattle.trace_semantics.specs.Trace.{operation_count}
use Rattle.clause_blocks.specs.Clauses.{pieces}
use Rattle.clause_blocks.specs.Pieces.{clauses_before}
use Rattle.clause_blocks.proofs.ClauseList.ListLemmas.{piece_at, piece_count}
use Rattle.clause_blocks.proofs.ClauseList.PartLemmas.{before_within}
use Rattle.clause_blocks.proofs.InPieces.PieceLemmas.{counted_upto}
use Rattle.clause_blocks.proofs.trace_clauses.starts_of.Goals as goal

pub overflow_add-count : goal.overflow_add-count
overflow_add-count c =
    let t = c.args.pieces.now in
    let count : c.count.result ≡ operation_count t + 4 = c.count.ensures ∙ piece_count t in
    omega (arith, count, c.recall_limits.ensures.few)

pub overflow_cast-before : goal.overflow_cast-before
overflow_cast-before c =
    let t = c.args.pieces.now in
    let low : c.loop-k.k + 1 ≤ length (pieces t) = search rules in
    let more = counted_upto (piece_at t) c.loop-k.k in
    let few = before_within t (c.loop-k.k + 1) low in
    let most = c.few_clauses.ensures t c.recall_limits.ensures.trace c.recall_limits.ensures.few in
    omega (arith, more, few, most, c.clauses_of_piece.ensures)

pub overflow_add-before : goal.overflow_add-before
overflow_add-before c =
    let t = c.args.pieces.now in
    let low : c.loop-k.k + 1 ≤ length (pieces t) = search rules in
    let more = counted_upto (piece_at t) c.loop-k.k in
    let few = before_within t (c.loop-k.k + 1) low in
    let most = c.few_clauses.ensures t c.recall_limits.ensures.trace c.recall_limits.ensures.few in
    omega (arith, more, few, most, c.clauses_of_piece.ensures, c.loop-k.invariant.so_far)

pub loop-k-preserved : goal.loop-k-preserved
loop-k-preserved c =
    let t = c.args.pieces.now in
    let more = counted_upto (piece_at t) c.loop-k.k in
    record {
      made = c.in_ok-push.ensures.items ∙ (λ p. c.loop-k.invariant.made p ++ c.loop-k.invariant.so_far p ∷ []) ∙ sym (map-range_with_len_more (clauses_before t) 0 c.loop-k.k c.loop-k.k (omega arith));
      so_far = omega (arith, more, c.clauses_of_piece.ensures, c.loop-k.invariant.so_far);
    }

pub returns : goal.returns
returns c =
    let t = c.args.pieces.now in
    let end : c.loop-k.k ≡ length (pieces t) = search rules in
    c.in_ok-push-2.ensures.items ∙ (λ p. c.loop-k.invariant.made p ++ c.loop-k.invariant.so_far p ∷ []) ∙ sym (map-range_with_len_more (clauses_before t) 0 c.loop-k.k c.loop-k.k (omega arith))
    ∙ ap (λ m. map (clauses_before t) (range_with_len 0 (m + 1))) end
