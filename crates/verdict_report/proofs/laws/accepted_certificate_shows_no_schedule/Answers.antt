use Rattle.std.proofs.Common.{List, [], refl, true, ◌∷◌, ◌≡◌}
use Rattle.std.proofs.lemmas.Bool.{and_from}
use Rattle.std.specs.Prelude.{ℕ, ◌&&◌}
use Rattle.certificate.specs.CertText.{AreSections}
use Rattle.certificate.specs.Rechecked.{are_sections_of_clauses}
use Rattle.certificate.specs.declared.certificate.Section.{Section}
use Rattle.clause_blocks.specs.Clauses.{formula_of}
use Rattle.lrat_check.proofs.DerivationText.LratWrittenLemmas.{steps_add_clauses}
use Rattle.lrat_check.specs.Derivation.{are_steps}
use Rattle.reducer.proofs.KeptTrace.TraceLemmas.{kept_is_trace}
use Rattle.reducer.specs.Reduction.{kept_trace}
use Rattle.verdict_report.proofs.MeaningLemmas.{model_of_schedule}
use Rattle.verdict_report.proofs.laws.accepted_certificate_shows_no_schedule.Goals as goal

-- The derivations of a certificate that a text spells add clauses.

sections_add_clauses : (lines : List (List ℕ)) (sections : List Section) → AreSections lines sections → are_sections_of_clauses sections ≡ true
sections_add_clauses lines [] h = refl
sections_add_clauses lines (section ∷ sections) h =
    and_from (are_steps section.derivation) (are_sections_of_clauses sections) (steps_add_clauses section.derivation h.1.derivation.written) (sections_add_clauses h.0 sections h.2)

pub returns : goal.returns
returns c text cert value certificate count names admitted spelled rechecked legal =
    let model = model_of_schedule value admitted.is_trace names legal in
    c.accepted_has_no_model.ensures (formula_of (kept_trace value)) certificate count
    (c.formula_is_over_its_variables.ensures (kept_trace value) (kept_is_trace value admitted.is_trace))
    spelled.tree.within.variables (sections_add_clauses _ certificate.sections spelled.sections) rechecked model.0 model.1
