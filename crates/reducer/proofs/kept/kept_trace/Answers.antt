use Rattle.std.proofs.Common.{sym, ◌∙◌, subst}
use Rattle.trace_semantics.specs.Trace.{IsTrace}
use Rattle.reducer.proofs.KeptTrace.BoundsLemmas.{places_kept}
use Rattle.reducer.proofs.KeptTrace.TraceLemmas.{kept_is_trace}
use Rattle.reducer.proofs.kept.kept_trace.Goals as goal

pub kept_processes-requires : goal.kept_processes-requires
kept_processes-requires c = record {
  bounds = c.requires;
  left = places_kept c.args.trace.now c.args.all.now c.as_slice-left.result.now c.requires (c.as_slice-left.ensures.value ∙ c.in_ok-places.ensures);
}

pub new_pairs-requires : goal.new_pairs-requires
new_pairs-requires c = places_kept c.args.trace.now c.args.all.now c.as_slice-left.result.now c.requires (c.as_slice-left.ensures.value ∙ c.in_ok-places.ensures)

pub new-requires : goal.new-requires
new-requires c =
    subst IsTrace
    (λ i. record {
      processes = sym c.in_ok-processes.ensures i;
      initial = sym (c.in_ok-initial.ensures ∙ c.initial.ensures) i;
      final_values = sym (c.in_ok-final_values.ensures ∙ c.final_values.ensures) i;
      before = sym c.in_ok-before.ensures i;
    })
    (kept_is_trace c.args.trace.now c.recall_invariant.ensures)
