use Rattle.std.proofs.Common.{rules, ◌≡◌, ◌≤◌, ◌+◌, ◌∷◌, [], ◌++◌, ◌∙◌, map, sym, ap, arith}
use Rattle.std.specs.List.{range_with_len}
use Rattle.std.proofs.lemmas.List.FromFn.{map-range_with_len_more}
use Rattle.clause_blocks.specs.Triples.{below_middle}
use Rattle.clause_blocks.proofs.InPieces.PieceLemmas.{counted_upto}
use Rattle.clause_blocks.proofs.InPieces.RangeSentLemmas.{of_pair}
use Rattle.clause_blocks.proofs.TransitivityClauses.TripleLemmas.{few_middle, pair_count}
use Rattle.clause_blocks.proofs.triple_table.middle_table.Goals as goal

pub overflow_add-below : goal.overflow_add-below
overflow_add-below c =
    let n = c.args.operations in
    let low : c.loop-j.j ≤ n = search rules in
    omega (arith, few_middle n c.loop-j.j c.requires low, c.requires, c.loop-j.invariant.so_far)

pub loop-j-preserved : goal.loop-j-preserved
loop-j-preserved c =
    let n = c.args.operations in
    let more = counted_upto (of_pair n 0) c.loop-j.j in
    let here = pair_count n 0 c.loop-j.j in
    record {
      made = c.in_ok-push.ensures.items ∙ (λ p. c.loop-j.invariant.made p ++ c.loop-j.invariant.so_far p ∷ []) ∙ sym (map-range_with_len_more (below_middle n) 0 c.loop-j.j c.loop-j.j (omega arith));
      so_far = omega (arith, more, here, c.loop-j.invariant.so_far);
    }

pub returns : goal.returns
returns c =
    let n = c.args.operations in
    let end : c.loop-j.j ≡ n = search rules in
    c.in_ok-push-2.ensures.items ∙ (λ p. c.loop-j.invariant.made p ++ c.loop-j.invariant.so_far p ∷ []) ∙ sym (map-range_with_len_more (below_middle n) 0 c.loop-j.j c.loop-j.j (omega arith))
    ∙ ap (λ m. map (below_middle n) (range_with_len 0 (m + 1))) end
