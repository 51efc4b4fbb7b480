use Rattle.std.proofs.Common.{◌+◌, ◌++◌, ◌∷◌, [], ap, sym, ◌∙◌, append-nil, true, false}
use Rattle.reducer.specs.Runs.{keeps}
use Rattle.reducer.proofs.KeptTrace.BoundsLemmas.{one_more_bound}
use Rattle.reducer.proofs.kept_places.bounds_in.Goals as goal
use Rattle.reducer.proofs.kept_places.bounds_in.Goals.{then-is_kept+in_ok-push, else-is_kept}

pub loop-k-preserved : goal.loop-k-preserved
loop-k-preserved c =
    elim c.if-is_kept.branch [
      | then-is_kept+in_ok-push w ↦ (
          ap (λ v. v.items) w.places-is ∙ w.in_ok-push.ensures.items ∙ ap (λ l. l ++ (c.loop-k.k + 1) ∷ []) c.loop-k.invariant
          ∙ sym (one_more_bound (keeps c.args.set.now c.args.process.now) c.args.process.now.name c.loop-k.k true (sym c.is_kept.ensures ∙ w.if-is_kept.true)))
      | else-is_kept w ↦ (
          ap (λ v. v.items) w.places-is ∙ c.loop-k.invariant ∙ sym (append-nil _)
          ∙ sym (one_more_bound (keeps c.args.set.now c.args.process.now) c.args.process.now.name c.loop-k.k false (sym c.is_kept.ensures ∙ w.if-is_kept.false)))
    ]
