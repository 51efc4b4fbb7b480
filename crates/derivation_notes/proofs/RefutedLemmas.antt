-- What it says of a trace that the clauses of what is kept of it have no model.
use Rattle.std.proofs.Common.{◌≡◌, ◌⊎◌, ◌∙◌, [], refl, subst, inl, inr}
use Rattle.clause_blocks.specs.Clauses.{clauses_of}
use Rattle.clause_blocks.proofs.ScheduleToModel.ScheduleLawLemmas.{schedule_values}
use Rattle.dimacs.specs.Models.{HasNoModelIn}
use Rattle.reducer.specs.Reduced.{ReducedValue, IsReduced}
use Rattle.reducer.specs.Reduction.{kept_trace}
use Rattle.reducer.proofs.DroppedReads.InterleavingLemmas.{reduced}
use Rattle.reducer.proofs.DroppedReads.ScheduleLemmas.{reduction_legal}
use Rattle.reducer.proofs.KeptTrace.TraceLemmas.{kept_is_trace}
use Rattle.trace_semantics.specs.Legal.{HasNoSchedule}
use Rattle.trace_semantics.specs.Trace.{TraceValue, IsTrace}

-- the trace has no legal schedule
pub none_legal : (t : TraceValue) → IsTrace t → HasNoModelIn (clauses_of (kept_trace t)) [] → HasNoSchedule t
none_legal t ok none names legal =
    let made = schedule_values (kept_trace t) (reduced t names) (kept_is_trace t ok) (reduction_legal t names ok legal) in
    none made.0 made.1 refl

module _ (P : Type 0) (r : ReducedValue) (ok : IsReduced r) (t whole : TraceValue) (kept : t ≡ r.kept) (of_whole : r.whole ≡ whole) where
  -- this holds, or the whole trace has no legal schedule
  pub or_none_legal : P ⊎ HasNoModelIn (clauses_of t) [] → P ⊎ HasNoSchedule whole
  or_none_legal (inl holds) = inl holds
  or_none_legal (inr none) =
      let of_kept = subst (λ (u : TraceValue). HasNoModelIn (clauses_of u) []) (kept ∙ ok.reduction) none in
      inr (subst HasNoSchedule of_whole (none_legal r.whole ok.is_trace of_kept))
