use Rattle.std.proofs.Common.{◌≡◌, ◌<◌, ℕ, map, take, length, arith, ap, sym, ◌∙◌, subst}
use Rattle.std.specs.List.{filter}
use Rattle.restriction.specs.Left.{new_pair}
use Rattle.part_law.specs.Part.{is_told, left_pairs}
use Rattle.forced_order.specs.Rows.{ordered_by}
use Rattle.trace_part.specs.Told.{AreForward, is_untimed, told_pairs}
use Rattle.trace_part.proofs.PairRowLemmas.{told_by_groups, one_more_told, told_in_all}
use Rattle.trace_part.proofs.SearchLemmas.{are_forward}
use Rattle.trace_part.proofs.pairs.pairs_left.Goals as goal

pub told_pairs-requires : goal.told_pairs-requires
told_pairs-requires c = record {
  forward = subst (λ gs. AreForward c.args.order.now gs) (sym (c.as_slice.ensures.value ∙ c.in_ok-groups.ensures c.requires.left.0 c.requires.left.1))
      (are_forward c.args.trace.now c.recall_invariant.ensures c.args.order.now c.requires.forward c.requires.left.0 c.args.all.now c.requires.left.1);
}

pub loop-k-preserved : goal.loop-k-preserved
loop-k-preserved c = λ stays given.
    let are =
    c.as_slice-few.ensures.value ∙ c.in_ok-told.ensures
    ∙ ap (filter (is_untimed c.args.trace.now.processes)) (c.as_slice-2.ensures.value ∙ c.in_ok-nearest.ensures ∙ ap (told_pairs c.args.order.now) (c.as_slice.ensures.value ∙ c.in_ok-groups.ensures stays given))
    ∙ told_by_groups c.args.trace.now c.recall_invariant.ensures c.args.order.now stays c.args.all.now given in
    let inside : c.loop-k.k < length c.as_slice-few.result.now = omega (arith, c.loop-k-test.true, c.min-count.ensures) in
    one_more_told c.args.trace.now c.recall_invariant.ensures c.args.order.now stays c.args.all.now given c.as_slice-few.result.now c.loop-k.k _ c.in_ok-new_names.field-0.0 c.in_ok-new_names.field-0.1 c.loop-k.pairs.items c.push.new.self.items
    are inside c.in_ok-new_names.ensures.first c.in_ok-new_names.ensures.second (c.loop-k.invariant stays given) c.in_ok-push.ensures.items

pub returns : goal.returns
returns c = λ stays given.
    let are =
    c.as_slice-few.ensures.value ∙ c.in_ok-told.ensures
    ∙ ap (filter (is_untimed c.args.trace.now.processes)) (c.as_slice-2.ensures.value ∙ c.in_ok-nearest.ensures ∙ ap (told_pairs c.args.order.now) (c.as_slice.ensures.value ∙ c.in_ok-groups.ensures stays given))
    ∙ told_by_groups c.args.trace.now c.recall_invariant.ensures c.args.order.now stays c.args.all.now given in
    let ended : c.loop-k.k ≡ c.min-count.result = omega (arith, c.loop-k.auto.k-end, c.loop-k-test.false) in
    c.loop-k.invariant stays given
    ∙ ap (λ (k : ℕ). map (new_pair stays) (take k (filter (is_told c.args.trace.now (ordered_by c.args.trace.now c.args.order.now) stays) (left_pairs c.args.trace.now stays)))) ended
    ∙ told_in_all c.args.trace.now c.recall_invariant.ensures c.args.order.now stays c.args.all.now given c.as_slice-few.result.now c.min-count.result are c.min-count.ensures
