use Rattle.std.proofs.Common.{◌≡◌, ◌-◌, ◌*◌, ◌∙◌, IfOk, map, ap, subst, arith}
use Rattle.std.specs.List.{filter, range_with_len}
use Rattle.std.proofs.lemmas.Slice.Zip.{AllZip-map}
use Rattle.rayon.specs.Numbers.{nat_range}
use Rattle.rayon.proofs.ListFacts.{IfOk-then}
use Rattle.rayon.proofs.ToStd.{filter_by_mask-filter, answers-by_ref}
use Rattle.clause_blocks.specs.Cycles.{cycle_at, is_above}
use Rattle.clause_blocks.proofs.parallel_transitivity.cycles_from.Goals as goal

pub returns : goal.returns
returns g c =
    let n = c.operations-n.result in
    let i = c.args.i in
    let ends = c.into_par_iter.ensures in
    let whole : n * n - 0 ≡ n * n = omega arith in
    subst (λ m. IfOk c.collect.result (λ cycles. cycles.items ≡ map (cycle_at m i) (filter (is_above m i) (range_with_len 0 (m * m))))) c.operations-n.ensures
    (IfOk-then c.collect.result _ _ c.collect.ensures (λ v h.
    let chain = rw (c.map.ensures.base, c.map.ensures.f) at h.1 in
    let kept = rw (c.filter.ensures.base, c.filter.ensures.f) at chain.1 in
    let places = kept.2 ∙ (λ k. nat_range (ends.0 k) (ends.1 k)) ∙ ap (range_with_len 0) whole in
    let masked = filter_by_mask-filter (is_above n i) kept.0 kept.1 (answers-by_ref (is_above n i) kept.0 kept.1 kept.3) in
    h.2 ∙ AllZip-map (cycle_at n i) chain.0 h.0 chain.2 ∙ ap (map (cycle_at n i)) (kept.4 ∙ masked ∙ ap (filter (is_above n i)) places)))
