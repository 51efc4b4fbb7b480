-- The runs of a table by location and value are whole.
use Rattle.std.proofs.Common.{◌≡◌, ◌<◌, ℕ, List, length, get_or, refl, ap, sym, ◌∙◌, arith, inl, inr, subst}
use Rattle.std.specs.Prelude.{Some, true}
use Rattle.std.specs.List.{Contains}
use Rattle.std.specs.Option.{option_and_then}
use Rattle.std.proofs.lemmas.Bool.{cases_order}
use Rattle.std.proofs.lemmas.List.{get_or_default}
use Rattle.trace_semantics.specs.Trace.{TraceValue, IsTrace}
use Rattle.trace_semantics.specs.ValueAfter.{value_left_at}
use Rattle.restriction.specs.Restriction.{left_by}
use Rattle.writer_table.specs.declared.runs.Run.{Run}
use Rattle.writer_table.specs.declared.trace_writers.TraceWriters.{TraceWriters}
use Rattle.writer_table.specs.Runs.{AreOrdered}
use Rattle.writer_table.specs.Writers.{HoldsWriters, runs_at}
use Rattle.order_clauses.specs.Numbered.{named}
use Rattle.reason_clauses.specs.Numbered.{at_number}
use Rattle.reason_clauses.specs.PossibleSources.{AreWholeRuns}
use Rattle.reason_clauses.proofs.NumberLemmas.{nobody, numbered_place}
use Rattle.reason_clauses.proofs.OwnLemmas.{in_table}
use Rattle.reason_clauses.proofs.SourceLemmas.{table_known}

-- of each process there is one run
below : (runs : List Run) → AreOrdered runs → (i j : ℕ) (a b : Run) → i < j → j < length runs → get_or runs i a ≡ a → get_or runs j b ≡ b → a.process < b.process
below runs ordered i j a b less low first second =
    let apart = ordered.apart i j a less low in
    let left = ap (λ (x : Run). x.process) first in
    let right = ap (λ (x : Run). x.process) (get_or_default runs j a b low ∙ second) in
    omega (arith, apart, left, right)

pub same_run : (runs : List Run) → AreOrdered runs → (a b : Run) → Contains runs a → Contains runs b → a.process ≡ b.process → a ≡ b
same_run runs ordered a b first second same =
    elim (cases_order first.0 second.0) [
      | inl e ↦ sym first.2 ∙ (ap (λ i. get_or runs i a) e ∙ (get_or_default runs second.0 a b second.1 ∙ second.2))
      | inr (inl less) ↦ absurd (let apart = below runs ordered first.0 second.0 a b less second.1 first.2 second.2 in omega (arith, apart, same))
      | inr (inr over) ↦ absurd (let apart = below runs ordered second.0 first.0 b a over first.1 second.2 first.2 in omega (arith, apart, same))
    ]

module _ (t : TraceValue) (ok : IsTrace t) (writers : TraceWriters) (holds : HoldsWriters t writers) (kind : writers.classes.by_value ≡ true) (location : List ℕ) (d : ℕ) where
  -- what a run has leaves the value
  leaves_there : (run : Run) → Contains (runs_at writers location d) run → (k : ℕ) → Contains run.places k → value_left_at t location (named t (at_number run.process k)) ≡ Some d
  leaves_there run listed k there =
      let at = holds.only location d run.process k (run, listed, refl, there) in
      let p = get_or t.processes run.process nobody in
      let is : get_or t.processes run.process p ≡ p = get_or_default t.processes run.process p nobody at.0 in
      let j = at.1.0 in
      let left = holds.leaves location d run.process j p is (run, listed, refl, subst (λ i. Contains run.places i) at.1.1 there) in
      subst (λ i. value_left_at t location (named t (at_number run.process i)) ≡ Some d) (sym at.1.1)
      (ap (option_and_then (left_by location)) (numbered_place t ok run.process j p at.0 is) ∙ (left.1 ∙ ap Some (left.2 kind)))

  pub whole_runs : AreWholeRuns t location d (runs_at writers location d)
  whole_runs run listed = record {
    all = λ k known leaves. (let found = in_table t ok writers holds (at_number run.process k) location d known.0 leaves in
        subst (λ (x : Run). Contains x.places k) (same_run (runs_at writers location d) (holds.ordered location d) found.0 run found.1 listed found.2) found.3);
    only = λ k there. (table_known t ok writers holds location d run listed k there, leaves_there run listed k there);
  }
