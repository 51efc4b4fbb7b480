use Rattle.std.proofs.Common.{◌≡◌, ◌∷◌, ◌∙◌}
use Rattle.std.specs.Prelude.{Some}
use Rattle.std.specs.Option.{option_or}
use Rattle.text_lines.specs.Numbers.{solver_number}
use Rattle.text_lines.specs.Words.{words_of}
use Rattle.lrat_check.specs.ListFault.{HasListFault}
use Rattle.lrat_check.specs.LratFaults.{list_fault, hint_fault, first_fault, behind_fault, addition_fault}
use Rattle.lrat_check.specs.LratRead.{IsWrittenStep}
use Rattle.lrat_check.specs.declared.derivation.Step.{Step}
use Rattle.lrat_check.specs.declared.lrat_fault.LratCause.{LratCause}
use Rattle.text_lines.specs.declared.fault.PlacedFault.{PlacedFault}
use Rattle.text_lines.specs.Fault.{IsRefusalAt}
use Rattle.lrat_check.proofs.DerivationText.LratLineLemmas.{handed, refusal_weaker, first_passes, addition_read}
use Rattle.lrat_check.proofs.lrat_reader.read_addition.Goals as goal

pub returns-in_err-hints : goal.returns-in_err-hints
returns-in_err-hints c =
    let word = c.args.word.now in
    let words = words_of c.args.rest.now in
    let Q : LratCause → Type 0 = λ cause. option_or (first_fault 1 (solver_number word)) (addition_fault words) ≡ Some cause in
    handed (λ (step : Step). IsWrittenStep (word ∷ words) step) (λ (fault : PlacedFault LratCause). IsRefusalAt Q c.args.number fault) c.from_residual-in_err-hints.result c.in_err-hints.field-0.0 c.from_residual-in_err-hints.ensures.1
    (refusal_weaker (λ (cause : LratCause). HasListFault hint_fault (words_of c.in_ok-literals.after.now) cause) Q c.args.number c.in_err-hints.field-0.0
    (λ cause h. first_passes 1 c.in-Ok.id word (addition_fault words) cause c.in-Ok.ensures.0 c.in-Ok.ensures.1 c.in-Ok.ensures.2 (c.in_ok-literals.ensures.faultless (list_fault hint_fault behind_fault) ∙ h behind_fault))
    c.in_err-hints.ensures)

pub returns-in_err-end_line : goal.returns-in_err-end_line
returns-in_err-end_line c =
    let word = c.args.word.now in
    let words = words_of c.args.rest.now in
    let Q : LratCause → Type 0 = λ cause. option_or (first_fault 1 (solver_number word)) (addition_fault words) ≡ Some cause in
    handed (λ (step : Step). IsWrittenStep (word ∷ words) step) (λ (fault : PlacedFault LratCause). IsRefusalAt Q c.args.number fault) c.from_residual-in_err-end_line.result c.in_err-end_line.field-0.0 c.from_residual-in_err-end_line.ensures.1
    (refusal_weaker (λ (cause : LratCause). behind_fault (words_of c.in_ok-hints.behind.now) ≡ Some cause) Q c.args.number c.in_err-end_line.field-0.0
    (λ cause h. first_passes 1 c.in-Ok.id word (addition_fault words) cause c.in-Ok.ensures.0 c.in-Ok.ensures.1 c.in-Ok.ensures.2
    (c.in_ok-literals.ensures.faultless (list_fault hint_fault behind_fault) ∙ c.in_ok-hints.ensures.faultless behind_fault ∙ h))
    c.in_err-end_line.ensures)

pub returns : goal.returns
returns c = addition_read c.args.word.now (words_of c.args.rest.now) (words_of c.in_ok-literals.after.now) (words_of c.in_ok-hints.behind.now) c.in-Ok.id c.in_ok-literals.literals c.in_ok-hints.hints
    c.in-Ok.ensures.0 c.in-Ok.ensures.1 c.in-Ok.ensures.2 c.in_ok-literals.ensures c.in_ok-hints.ensures c.in_ok-end_line.ensures
