use Rattle.std.proofs.Common.{◌≡◌, ◌+◌, ◌∙◌, length, map, get_or, ap, arith}
use Rattle.std.specs.List.{range_with_len}
use Rattle.clause_blocks.specs.Clauses.{pieces, clauses_of}
use Rattle.clause_blocks.specs.Pieces.{clauses_before}
use Rattle.clause_blocks.proofs.ClauseList.ListLemmas.{all_pieces}
use Rattle.clause_blocks.proofs.InPieces.PieceLemmas.{entry, long}
use Rattle.clause_blocks.proofs.trace_clauses.TraceClauses.piece_at.Goals as goal

pub reached-requires-clause-within : goal.reached-requires-clause-within
reached-requires-clause-within c =
    let t = c.args.self.now in
    let starts = c.as_slice.result.now in
    let table : starts ≡ map (clauses_before t) (range_with_len 0 (length (pieces t) + 1)) =
    c.as_slice.ensures.value ∙ c.self.invariant.in_starts ∙ ap (λ u. map (clauses_before u) (range_with_len 0 (length (pieces u) + 1))) c.self.view_is in
    omega (arith, long (clauses_before t) (length (pieces t)) starts table, c.pieces.ensures)

pub reached-requires-clause-below : goal.reached-requires-clause-below
reached-requires-clause-below c =
    let t = c.args.self.now in
    let starts = c.as_slice.result.now in
    let table : starts ≡ map (clauses_before t) (range_with_len 0 (length (pieces t) + 1)) =
    c.as_slice.ensures.value ∙ c.self.invariant.in_starts ∙ ap (λ u. map (clauses_before u) (range_with_len 0 (length (pieces u) + 1))) c.self.view_is in
    let end : c.pieces.result ≡ length (pieces t) = c.pieces.ensures in
    let last : get_or starts c.pieces.result 0 ≡ length (clauses_of t) = entry (clauses_before t) (length (pieces t)) starts table c.pieces.result (omega (arith, end)) ∙ ap (clauses_before t) end ∙ ap length (all_pieces t) in
    omega (arith, last, c.requires)

pub returns-clause-above : goal.returns-clause-above
returns-clause-above c =
    let t = c.args.self.now in
    let starts = c.as_slice.result.now in
    let table : starts ≡ map (clauses_before t) (range_with_len 0 (length (pieces t) + 1)) =
    c.as_slice.ensures.value ∙ c.self.invariant.in_starts ∙ ap (λ u. map (clauses_before u) (range_with_len 0 (length (pieces u) + 1))) c.self.view_is in
    let end : c.pieces.result ≡ length (pieces t) = c.pieces.ensures in
    omega (arith, entry (clauses_before t) (length (pieces t)) starts table c.reached.result (omega (arith, end, c.reached.ensures.last)), c.reached.ensures.above)

pub returns-clause-below : goal.returns-clause-below
returns-clause-below c =
    let t = c.args.self.now in
    let starts = c.as_slice.result.now in
    let table : starts ≡ map (clauses_before t) (range_with_len 0 (length (pieces t) + 1)) =
    c.as_slice.ensures.value ∙ c.self.invariant.in_starts ∙ ap (λ u. map (clauses_before u) (range_with_len 0 (length (pieces u) + 1))) c.self.view_is in
    let end : c.pieces.result ≡ length (pieces t) = c.pieces.ensures in
    omega (arith, entry (clauses_before t) (length (pieces t)) starts table (c.reached.result + 1) (omega (arith, end, c.reached.ensures.last)), c.reached.ensures.below)
