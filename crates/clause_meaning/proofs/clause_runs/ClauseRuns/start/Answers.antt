use Rattle.std.proofs.Common.{◌≡◌, ◌+◌, ◌∙◌, length, map, ap, arith}
use Rattle.std.specs.List.{range_with_len}
use Rattle.clause_blocks.proofs.InPieces.PieceLemmas.{entry, long}
use Rattle.clause_meaning.specs.Runs.{runs}
use Rattle.clause_meaning.specs.Starts.{start_of}
use Rattle.clause_meaning.proofs.clause_runs.ClauseRuns.start.Goals as goal

pub offset_bounds-starts-k : goal.offset_bounds-starts-k
offset_bounds-starts-k c =
    let t = c.args.self.now in
    let starts = c.as_slice-starts.result.now in
    let table : starts ≡ map (start_of t) (range_with_len 0 (length (runs t) + 1)) =
    c.as_slice-starts.ensures.value ∙ c.self.invariant.in_starts ∙ ap (λ u. map (start_of u) (range_with_len 0 (length (runs u) + 1))) c.self.view_is in
    omega (arith, long (start_of t) (length (runs t)) starts table, c.requires, c.as_slice-starts.type_inv.1)

pub bounds-starts-k : goal.bounds-starts-k
bounds-starts-k c =
    let t = c.args.self.now in
    let starts = c.as_slice-starts.result.now in
    let table : starts ≡ map (start_of t) (range_with_len 0 (length (runs t) + 1)) =
    c.as_slice-starts.ensures.value ∙ c.self.invariant.in_starts ∙ ap (λ u. map (start_of u) (range_with_len 0 (length (runs u) + 1))) c.self.view_is in
    omega (arith, long (start_of t) (length (runs t)) starts table, c.requires)

pub returns : goal.returns
returns c =
    let t = c.args.self.now in
    let starts = c.as_slice-starts.result.now in
    let table : starts ≡ map (start_of t) (range_with_len 0 (length (runs t) + 1)) =
    c.as_slice-starts.ensures.value ∙ c.self.invariant.in_starts ∙ ap (λ u. map (start_of u) (range_with_len 0 (length (runs u) + 1))) c.self.view_is in
    entry (start_of t) (length (runs t)) starts table c.args.k (omega (arith, c.requires))
