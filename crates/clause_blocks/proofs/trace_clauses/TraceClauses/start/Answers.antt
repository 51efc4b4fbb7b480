use Rattle.std.proofs.Common.{◌≡◌, ◌+◌, ◌∙◌, length, map, ap, arith}
use Rattle.std.specs.List.{range_with_len}
use Rattle.clause_blocks.specs.Clauses.{pieces}
use Rattle.clause_blocks.specs.Pieces.{clauses_before}
use Rattle.clause_blocks.proofs.InPieces.PieceLemmas.{entry, long}
use Rattle.clause_blocks.proofs.trace_clauses.TraceClauses.start.Goals as goal

pub offset_bounds-starts-k : goal.offset_bounds-starts-k
offset_bounds-starts-k c =
    let t = c.args.self.now in
    let starts = c.as_slice-starts.result.now in
    let table : starts ≡ map (clauses_before t) (range_with_len 0 (length (pieces t) + 1)) =
    c.as_slice-starts.ensures.value ∙ c.self.invariant.in_starts ∙ ap (λ u. map (clauses_before u) (range_with_len 0 (length (pieces u) + 1))) c.self.view_is in
    omega (arith, long (clauses_before t) (length (pieces t)) starts table, c.requires, c.as_slice-starts.type_inv.1)

pub bounds-starts-k : goal.bounds-starts-k
bounds-starts-k c =
    let t = c.args.self.now in
    let starts = c.as_slice-starts.result.now in
    let table : starts ≡ map (clauses_before t) (range_with_len 0 (length (pieces t) + 1)) =
    c.as_slice-starts.ensures.value ∙ c.self.invariant.in_starts ∙ ap (λ u. map (clauses_before u) (range_with_len 0 (length (pieces u) + 1))) c.self.view_is in
    omega (arith, long (clauses_before t) (length (pieces t)) starts table, c.requires)

pub returns : goal.returns
returns c =
    let t = c.args.self.now in
    let starts = c.as_slice-starts.result.now in
    let table : starts ≡ map (clauses_before t) (range_with_len 0 (length (pieces t) + 1)) =
    c.as_slice-starts.ensures.value ∙ c.self.invariant.in_starts ∙ ap (λ u. map (clauses_before u) (range_with_len 0 (length (pieces u) + 1))) c.self.view_is in
    entry (clauses_before t) (length (pieces t)) starts table c.args.k c.requires
