use Rattle.std.proofs.Common.{◌≡◌, ◌∷◌, ◌∙◌}
use Rattle.std.specs.Prelude.{Some, codes}
use Rattle.std.specs.Option.{option_or}
use Rattle.text_lines.specs.Numbers.{solver_number}
use Rattle.text_lines.specs.Words.{words_of}
use Rattle.lrat_check.specs.ListFault.{HasListFault}
use Rattle.lrat_check.specs.LratFaults.{id_fault, first_fault, behind_fault, deletion_fault}
use Rattle.lrat_check.specs.LratRead.{IsWrittenStep}
use Rattle.lrat_check.specs.declared.derivation.Step.{Step}
use Rattle.lrat_check.specs.declared.lrat_fault.LratCause.{LratCause}
use Rattle.text_lines.specs.declared.fault.PlacedFault.{PlacedFault}
use Rattle.text_lines.specs.Fault.{IsRefusalAt}
use Rattle.lrat_check.proofs.DerivationText.LratLineLemmas.{handed, refusal_weaker, first_passes, deletion_read}
use Rattle.lrat_check.proofs.lrat_reader.read_deletion.Goals as goal

pub returns-in_err-ids : goal.returns-in_err-ids
returns-in_err-ids c =
    let word = c.args.word.now in
    let words = words_of c.args.rest.now in
    let Q : LratCause → Type 0 = λ cause. option_or (first_fault 0 (solver_number word)) (deletion_fault words) ≡ Some cause in
    handed (λ (step : Step). IsWrittenStep (word ∷ (codes "d" ∷ words)) step) (λ (fault : PlacedFault LratCause). IsRefusalAt Q c.args.number fault) c.from_residual.result c.in_err-ids.field-0.0 c.from_residual.ensures.1
    (refusal_weaker (λ (cause : LratCause). HasListFault id_fault words cause) Q c.args.number c.in_err-ids.field-0.0
    (λ cause h. first_passes 0 c.in-Ok.first word (deletion_fault words) cause c.in-Ok.ensures.0 c.in-Ok.ensures.1 c.in-Ok.ensures.2 (h behind_fault))
    c.in_err-ids.ensures)

pub returns-in_err-end_line : goal.returns-in_err-end_line
returns-in_err-end_line c =
    let word = c.args.word.now in
    let words = words_of c.args.rest.now in
    let Q : LratCause → Type 0 = λ cause. option_or (first_fault 0 (solver_number word)) (deletion_fault words) ≡ Some cause in
    handed (λ (step : Step). IsWrittenStep (word ∷ (codes "d" ∷ words)) step) (λ (fault : PlacedFault LratCause). IsRefusalAt Q c.args.number fault) c.from_residual-in_err-end_line.result c.in_err-end_line.field-0.0 c.from_residual-in_err-end_line.ensures.1
    (refusal_weaker (λ (cause : LratCause). behind_fault (words_of c.in_ok-ids.behind.now) ≡ Some cause) Q c.args.number c.in_err-end_line.field-0.0
    (λ cause h. first_passes 0 c.in-Ok.first word (deletion_fault words) cause c.in-Ok.ensures.0 c.in-Ok.ensures.1 c.in-Ok.ensures.2 (c.in_ok-ids.ensures.faultless behind_fault ∙ h))
    c.in_err-end_line.ensures)

pub returns : goal.returns
returns c = deletion_read c.args.word.now (words_of c.args.rest.now) (words_of c.in_ok-ids.behind.now) c.in-Ok.first c.in_ok-ids.ids c.in-Ok.ensures.0 c.in-Ok.ensures.2 c.in_ok-ids.ensures c.in_ok-end_line.ensures
