-- The jobs of leaves, which are made one after the other.
use Rattle.std.proofs.Common.{◌≡◌, ℕ, suc, ◌+◌, ◌<◌, ℤ, List, [], ◌∷◌, ◌++◌, length, take, get_or, Some, sym, ◌∙◌, ap, subst, inl, inr, arith}
use Rattle.std.specs.List.{slice_get}
use Rattle.std.proofs.Math.Seq.{take-suc}
use Rattle.std.proofs.lemmas.List.{map-append, get_or_default}
use Rattle.std.proofs.lemmas.List.Elements.{Contains-append_cases}
use Rattle.trace_semantics.proofs.ElementLemmas.{cases_in, none_in}
use Rattle.cube_jobs.specs.declared.job.Job.{Job}
use Rattle.cube_jobs.specs.Results.{AreLeaves}
use Rattle.cube_queue.specs.Participants.{AreJobsOf}

-- one more job
pub one_job : (cubes : List (List ℤ)) (which : List ℕ) (k : ℕ) (jobs : List Job) (job : Job) → AreJobsOf cubes (take k which) jobs → k < length which → job.ticket ≡ get_or which k 0 →
    slice_get cubes (get_or which k 0) ≡ Some job.cube → AreJobsOf cubes (take (k + 1) which) (jobs ++ job ∷ [])
one_job cubes which k jobs job so below ticket there =
    let one : k + 1 ≡ suc k = omega arith in
    record {
      tickets_are =
          map-append (λ (job : Job). job.ticket) jobs (job ∷ [])
          ∙ ap (λ (ts : List ℕ). ts ++ job.ticket ∷ []) so.tickets_are
          ∙ ap (λ (t : ℕ). take k which ++ t ∷ []) ticket
          ∙ sym (take-suc which k 0 below)
          ∙ ap (λ (n : ℕ). take n which) (sym one);
      cubes_are = λ other c. elim (Contains-append_cases jobs (job ∷ []) other c) [
        | inl before ↦ so.cubes_are other before
        | inr last ↦ elim (cases_in job [] other last) [
          | inl same ↦ subst (λ (x : Job). slice_get cubes x.ticket ≡ Some x.cube) same (ap (slice_get cubes) ticket ∙ there)
          | inr none ↦ absurd (none_in other none)
        ]
      ];
    }

-- a leaf that is asked for is one of the tree's
pub leaf_low : (cubes : List (List ℤ)) (which : List ℕ) (k : ℕ) → AreLeaves cubes which → k < length which → get_or which k 0 < length cubes
leaf_low cubes which k asked below = asked.each (get_or which k 0) (k, below, get_or_default which k (get_or which k 0) 0 below)
