use Rattle.std.proofs.Common.{◌≡◌, ◌≤◌, ℤ, List, [], ◌∷◌, length, true, refl, arith}
use Rattle.std.specs.List.{AllZip, list_all}
use Rattle.std.proofs.lemmas.Bool.{and_from}
use Rattle.trace_semantics.specs.Trace.{TraceValue}
use Rattle.reducer.specs.Reduction.{kept_trace}
use Rattle.clause_blocks.specs.Clauses.{clauses_of}
use Rattle.cube_tree.specs.CubeTree.{cubes_of, leaves}
use Rattle.cube_tree.proofs.TreeLemmas.{cubes_counted}
use Rattle.lrat_check.specs.Checked.{IsAccepted}
use Rattle.lrat_check.specs.LratText.{is_lrat_step}
use Rattle.lrat_check.specs.declared.derivation.Step.{Step}
use Rattle.certificate.specs.CertText.{SpellsCertificate}
use Rattle.certificate.specs.Rechecked.{IsRechecked}
use Rattle.certificate.proofs.RecheckLawLemmas.{proofs_accepted}
use Rattle.certificate.proofs.CertificateText.WrittenLemmas.{written_read}
use Rattle.cube_jobs.specs.Options.{OptionsValue}
use Rattle.result_ledger.specs.Verdict.{IsProofIn}
use Rattle.trace_decision.specs.Decision.{IsDecided, IsRefutation, certificate_text, certificate_in}
use Rattle.trace_decision.specs.declared.decision.Decision.TheVariants.{Inconsistent}
use Rattle.trace_decision.specs.declared.refutation.Refutation.{Refutation}
use Rattle.trace_decision.proofs.laws.certificate_is_accepted.Goals as goal

-- The certificate of a trace without a legal schedule.

module _ (clauses : List (List ℤ)) where
  as_many : (cubes : List (List ℤ)) (derivations : List (List Step)) → AllZip (IsProofIn clauses) cubes derivations → length derivations ≡ length cubes
  as_many [] [] h = refl
  as_many [] (steps ∷ derivations) h = absurd h
  as_many (cube ∷ cubes) [] h = absurd h
  as_many (cube ∷ cubes) (steps ∷ derivations) h = let rest = as_many cubes derivations h.1 in omega (arith, rest)

  few : (refutation : Refutation) → IsRefutation clauses refutation → length refutation.derivations ≤ 1024
  few refutation h =
      let count = as_many (cubes_of refutation.tree) refutation.derivations h.proofs in
      omega (arith, count, cubes_counted refutation.tree, h.is_tree.few)

  all_accepted : (cubes : List (List ℤ)) (derivations : List (List Step)) → AllZip (IsProofIn clauses) cubes derivations → AllZip (IsAccepted clauses) cubes derivations
  all_accepted [] [] h = tt
  all_accepted [] (steps ∷ derivations) h = absurd h
  all_accepted (cube ∷ cubes) [] h = absurd h
  all_accepted (cube ∷ cubes) (steps ∷ derivations) h = (h.0.accepted, all_accepted cubes derivations h.1)

  all_written : (cubes : List (List ℤ)) (derivations : List (List Step)) → AllZip (IsProofIn clauses) cubes derivations → list_all (λ steps. list_all is_lrat_step steps) derivations ≡ true
  all_written [] [] h = refl
  all_written [] (steps ∷ derivations) h = absurd h
  all_written (cube ∷ cubes) [] h = absurd h
  all_written (cube ∷ cubes) (steps ∷ derivations) h = and_from (list_all is_lrat_step steps) (list_all (λ steps. list_all is_lrat_step steps) derivations) h.0.written (all_written cubes derivations h.1)

spelled : (options : OptionsValue) (value : TraceValue) (refutation : Refutation) → IsDecided options value (Inconsistent refutation) → SpellsCertificate (certificate_text (Inconsistent refutation)) (certificate_in refutation)
spelled options value refutation h =
    let clauses = clauses_of (kept_trace value) in
    written_read refutation.tree refutation.derivations h.0.is_tree (few clauses refutation h.0) (all_written clauses (cubes_of refutation.tree) refutation.derivations h.0.proofs)

accepted : (options : OptionsValue) (value : TraceValue) (refutation : Refutation) → IsDecided options value (Inconsistent refutation) → IsRechecked (clauses_of (kept_trace value)) (certificate_in refutation) (leaves refutation.tree)
accepted options value refutation h =
    let clauses = clauses_of (kept_trace value) in
    proofs_accepted clauses refutation.tree refutation.derivations (all_accepted clauses (cubes_of refutation.tree) refutation.derivations h.0.proofs)

pub returns-clause-spelled : goal.returns-clause-spelled
returns-clause-spelled c = spelled

pub returns-clause-accepted : goal.returns-clause-accepted
returns-clause-accepted c = accepted
