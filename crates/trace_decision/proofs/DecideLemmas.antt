-- From the verdict on the formula of a kept trace to what is decided of the whole trace.
use Rattle.std.proofs.Common.{◌≡◌, ℕ, ℤ, Bool, true, List, map, Some, sym, ◌∙◌, ap, subst}
use Rattle.std.specs.List.{AllZip, list_all, Contains, slice_get}
use Rattle.trace_semantics.proofs.ElementLemmas.{to_map, from_map}
use Rattle.trace_semantics.specs.declared.operation.OpName.{OpName}
use Rattle.trace_semantics.specs.Legal.{IsLegal}
use Rattle.reducer.specs.Reduced.{ReducedValue, IsReduced}
use Rattle.reducer.specs.Reduction.{kept_trace}
use Rattle.reducer.proofs.DroppedReads.InterleavingLemmas.{reduced}
use Rattle.reducer.proofs.DroppedReads.ScheduleLemmas.{expansion_legal, reduction_legal}
use Rattle.reducer.specs.Expansion.{expansion}
use Rattle.reducer.proofs.KeptTrace.TraceLemmas.{kept_is_trace}
use Rattle.trace_semantics.specs.Trace.{TraceValue, IsTrace}
use Rattle.clause_blocks.proofs.ScheduleToModel.ScheduleLawLemmas.{schedule_values}
use Rattle.clause_blocks.specs.Clauses.{clauses_of, formula_of}
use Rattle.cube_jobs.specs.Options.{OptionsValue}
use Rattle.cube_tree.specs.Covers.{Covers}
use Rattle.cube_tree.specs.CubeTree.{CubeTree, cubes_of, IsCubeTree}
use Rattle.dimacs.specs.Assignment.{makes_all, value_of}
use Rattle.dimacs.specs.Formula.{FormulaValue, is_formula}
use Rattle.dimacs.specs.Literal.{is_clause}
use Rattle.dimacs.specs.Models.{IsModel}
use Rattle.lrat_check.specs.declared.derivation.Step.{Step}
use Rattle.result_ledger.specs.declared.slot.Slot.{Slot}
use Rattle.result_ledger.specs.declared.verdict.Verdict.{Verdict}
use Rattle.result_ledger.specs.declared.verdict.Verdict.TheVariants.{Consistent as HasModel, Inconsistent, Unknown}
use Rattle.result_ledger.specs.Ledger.{cubes_in, derivations_in}
use Rattle.result_ledger.specs.Verdict.{IsProofIn, IsVerdict}
use Rattle.result_ledger.proofs.CoverLemmas.{no_model_anywhere, model_in_listed}
use Rattle.result_ledger.proofs.DerivationLemmas.{proofs_by_leaf}
use Rattle.result_ledger.proofs.SlotLemmas.{cube_at}
use Rattle.trace_decision.specs.declared.decision.Decision.TheVariants.{Inconsistent as IsInconsistent, Unknown as IsUnknown}
use Rattle.trace_decision.specs.Decision.{AreCubesLeftOpen, AreCubesOf, AreLeftOpen, HoldModels, IsDecided}
use Rattle.trace_decision.specs.Rounds.{HaveEnded}
use Rattle.trace_decision.proofs.InCubeLemmas.{holds_schedules}

-- a legal schedule of what is kept becomes one of the whole trace
pub expanded_legal : (r : ReducedValue) → IsReduced r → (kept schedule : List OpName) → IsLegal r.kept kept → schedule ≡ expansion r.whole kept → IsLegal r.whole schedule
expanded_legal r ok kept schedule legal expanded =
    subst (λ (s : List OpName). IsLegal r.whole s) (sym expanded) (expansion_legal r.whole kept ok.is_trace (subst (λ (t : TraceValue). IsLegal t kept) ok.reduction legal))

-- ---- the cubes of leaves

-- ---- what follows from the verdict

-- a model
pub is_model : (clauses : List (List ℤ)) (t : TraceValue) (slots : List Slot) (leaf : ℕ) (truth : List Bool) (verdict : Verdict) → verdict ≡ HasModel leaf truth → clauses ≡ clauses_of t → IsVerdict clauses slots verdict → IsModel (value_of truth) (clauses_of t)
is_model clauses t slots leaf truth verdict is same h =
    let at : IsVerdict clauses slots (HasModel leaf truth) = subst (λ (v : Verdict). IsVerdict clauses slots v) is h in
    subst (λ (cs : List (List ℤ)). IsModel (value_of truth) cs) same at.0.holds.confirmed.model

-- a schedule of the whole trace gives a model of the clauses of what is kept of it
model_of_schedule : (t : TraceValue) → IsTrace t → (names : List OpName) → IsLegal t names → (truth : ℕ → Bool) × IsModel truth (clauses_of (kept_trace t))
model_of_schedule t ok names legal =
    let made = schedule_values (kept_trace t) (reduced t names) (kept_is_trace t ok) (reduction_legal t names ok legal) in
    (made.0, made.1)

-- what a verdict that is open leaves open
pub open_leaves : (slots : List Slot) (verdict : Verdict) (listed : List ℕ) → verdict ≡ Unknown listed → (cubes : List (List ℤ)) → AreCubesOf slots listed cubes → AreCubesLeftOpen slots verdict cubes
open_leaves slots verdict listed is cubes are = subst (λ (v : Verdict). AreCubesLeftOpen slots v cubes) (sym is) are

module _ (r : ReducedValue) (ok : IsReduced r) (f : FormulaValue) (f_is : f ≡ formula_of r.kept) (fine : is_formula f ≡ true)
    (tree : CubeTree) (slots : List Slot) (same : cubes_in slots ≡ cubes_of tree) (clean : list_all is_clause (cubes_in slots) ≡ true) (covers : Covers (cubes_of tree)) (options : OptionsValue) where
  clauses_are : f.clauses ≡ clauses_of (kept_trace r.whole)
  clauses_are = ap (λ (x : FormulaValue). x.clauses) f_is ∙ ap clauses_of ok.reduction

  slots_cover : Covers (cubes_in slots)
  slots_cover = subst Covers (sym same) covers

  pub inconsistent : (count : ℕ) (derivations : List (List Step)) → IsCubeTree tree → derivations ≡ derivations_in slots → IsVerdict f.clauses slots (Inconsistent count) →
      IsDecided options r.whole (IsInconsistent (record { tree = tree; derivations = derivations }))
  inconsistent count derivations is_tree are h =
      let by_leaf : AllZip (IsProofIn f.clauses) (cubes_in slots) (derivations_in slots) = proofs_by_leaf f.clauses slots count h in
      let here : AllZip (IsProofIn f.clauses) (cubes_of tree) derivations = subst (λ (ds : List (List Step)). AllZip (IsProofIn f.clauses) (cubes_of tree) ds) (sym are) (subst (λ (cs : List (List ℤ)). AllZip (IsProofIn f.clauses) cs (derivations_in slots)) same by_leaf) in (
        record { is_tree = is_tree; proofs = subst (λ (cs : List (List ℤ)). AllZip (IsProofIn cs) (cubes_of tree) derivations) clauses_are here },
        λ names legal.
            let model = model_of_schedule r.whole ok.is_trace names legal in
            no_model_anywhere f slots count fine clean slots_cover h model.0 (subst (λ (cs : List (List ℤ)). IsModel model.0 cs) (sym clauses_are) model.1),
      )

  -- the cubes that the verdict leaves open
  left_open : IsCubeTree tree → (verdict : Verdict) → HaveEnded r.kept options slots verdict → (cubes : List (List ℤ)) → AreCubesLeftOpen slots verdict cubes → AreLeftOpen (kept_trace r.whole) options cubes
  left_open is_tree verdict ended cubes are = record {
    tree = tree;
    is_tree = is_tree;
    slots = slots;
    slots_of_tree = same;
    verdict = verdict;
    ended = subst (λ (t : TraceValue). HaveEnded t options slots verdict) ok.reduction ended;
    open_are = are;
  }

  -- all models are in the cubes of the leaves that are not proved
  holds_models : (listed : List ℕ) (cubes : List (List ℤ)) → IsVerdict f.clauses slots (Unknown listed) → AreCubesOf slots listed cubes → HoldModels (clauses_of (kept_trace r.whole)) cubes
  holds_models listed cubes h are value model =
      let (leaf, slot, within, there, holds) = model_in_listed f slots listed fine clean slots_cover h value (subst (λ (cs : List (List ℤ)). IsModel value cs) (sym clauses_are) model) in
      let some_cube : Contains (map (slice_get (cubes_in slots)) listed) (Some slot.cube) =
      subst (λ c. Contains (map (slice_get (cubes_in slots)) listed) c) (cube_at slots leaf slot there) (to_map (slice_get (cubes_in slots)) listed leaf within) in
      let (cube, among, is) = from_map Some cubes (Some slot.cube) (subst (λ cs. Contains cs (Some slot.cube)) (sym are) some_cube) in
      let cubes_same : cube ≡ slot.cube = cc is in
      (cube, among, subst (λ (c : List ℤ). makes_all value c ≡ true) (sym cubes_same) holds.inside)

  pub unknown : IsCubeTree tree → (verdict : Verdict) (listed : List ℕ) → verdict ≡ Unknown listed → HaveEnded r.kept options slots verdict → IsVerdict f.clauses slots verdict →
      (cubes : List (List ℤ)) → AreCubesOf slots listed cubes → IsDecided options r.whole (IsUnknown cubes)
  unknown is_tree verdict listed is ended h cubes are = (
    holds_models listed cubes (subst (λ (v : Verdict). IsVerdict f.clauses slots v) is h) are,
    left_open is_tree verdict ended cubes (open_leaves slots verdict listed is cubes are),
    holds_schedules r.whole ok.is_trace cubes (holds_models listed cubes (subst (λ (v : Verdict). IsVerdict f.clauses slots v) is h) are),
  )
