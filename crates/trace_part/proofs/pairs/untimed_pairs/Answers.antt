use Rattle.std.proofs.Common.{◌≡◌, ◌<◌, ◌+◌, ◌++◌, ◌∷◌, [], ℕ, List, length, take, get_or, Bool, true, false, cond, ap, sym, ◌∙◌, append-nil}
use Rattle.std.specs.List.{filter}
use Rattle.std.proofs.lemmas.List.{take_more}
use Rattle.std.proofs.lemmas.List.Elements.{filter-append}
use Rattle.trace_part.specs.declared.left_names.LeftName.{LeftName}
use Rattle.trace_part.specs.Told.{is_untimed}
use Rattle.trace_part.proofs.pairs.untimed_pairs.Goals as goal
use Rattle.trace_part.proofs.pairs.untimed_pairs.Goals.{then-is_untimed+in_ok-push, else-is_untimed}

-- one pair more
one_more_left : (p : LeftName × LeftName → Bool) (pairs : List (LeftName × LeftName)) (k : ℕ) (d : LeftName × LeftName) (b : Bool) (items new : List (LeftName × LeftName)) → k < length pairs → p (get_or pairs k d) ≡ b →
    items ≡ filter p (take k pairs) → new ≡ items ++ cond b (get_or pairs k d ∷ []) [] → new ≡ filter p (take (k + 1) pairs)
one_more_left p pairs k d b items new inside e so_far f =
    f ∙ ap (λ l. l ++ cond b (get_or pairs k d ∷ []) []) so_far
    ∙ sym (ap (filter p) (take_more pairs k d inside) ∙ filter-append p (take k pairs) (get_or pairs k d ∷ []) ∙ ap (λ h. filter p (take k pairs) ++ cond h (get_or pairs k d ∷ []) []) e)

pub loop-pair-preserved : goal.loop-pair-preserved
loop-pair-preserved c =
    let p = is_untimed c.args.trace.now.processes in
    let d : LeftName × LeftName = (record { name = record { process = 0; place = 0 }; new = 0 }, record { name = record { process = 0; place = 0 }; new = 0 }) in
    elim c.if-is_untimed.branch [
      | then-is_untimed+in_ok-push w ↦
          one_more_left p c.args.pairs.now c.loop-pair.pair-index d true c.loop-pair.left.items _ c.loop-pair-test.true (sym c.is_untimed.ensures ∙ w.if-is_untimed.true) c.loop-pair.invariant
          (ap (λ v. v.items) w.left-is ∙ w.in_ok-push.ensures.items)
      | else-is_untimed w ↦
          one_more_left p c.args.pairs.now c.loop-pair.pair-index d false c.loop-pair.left.items _ c.loop-pair-test.true (sym c.is_untimed.ensures ∙ w.if-is_untimed.false) c.loop-pair.invariant
          (ap (λ v. v.items) w.left-is ∙ sym (append-nil c.loop-pair.left.items))
    ]
