use Rattle.std.proofs.Common.{◌++◌, ◌∷◌, [], ap, sym, ◌∙◌, append-nil, true, false}
use Rattle.std.specs.Prelude.{is_some}
use Rattle.var_layout.specs.Numbers.{left_at}
use Rattle.var_layout.proofs.RangeLemmas.{filter_range_more}
use Rattle.var_layout.proofs.numbering.Numbering.writers.Goals as goal
use Rattle.var_layout.proofs.numbering.Numbering.writers.Goals.{then-is_some+in_ok-push, else-is_some}

pub loop-i-preserved : goal.loop-i-preserved
loop-i-preserved c =
    let passes = ap is_some (sym c.left_at.ensures) ∙ sym c.is_some.ensures in
    elim c.if-is_some.branch [
      | then-is_some+in_ok-push w ↦ (
          ap (λ v. v.items) w.found-is ∙ w.in_ok-push.ensures.items ∙ ap (λ l. l ++ c.loop-i.i ∷ []) c.loop-i.invariant
          ∙ sym (filter_range_more (λ i. is_some (left_at c.args.self.now c.args.location.now i)) c.loop-i.i true (passes ∙ w.if-is_some.true)))
      | else-is_some w ↦ (
          ap (λ v. v.items) w.found-is ∙ c.loop-i.invariant ∙ sym (append-nil _)
          ∙ sym (filter_range_more (λ i. is_some (left_at c.args.self.now c.args.location.now i)) c.loop-i.i false (passes ∙ w.if-is_some.false)))
    ]
