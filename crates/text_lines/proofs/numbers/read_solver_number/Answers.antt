use Rattle.std.proofs.Common.{◌≡◌, ◌∙◌, ap, sym, true, false}
use Rattle.std.specs.Str.Parse.{digits_value}
use Rattle.text_lines.specs.Numbers.{is_digits, digits_after_sign}
use Rattle.text_lines.proofs.Decimals.SolverLemmas.{read_number, is_number, not_zero, kept_value}
use Rattle.text_lines.proofs.numbers.read_solver_number.Goals as goal
use Rattle.text_lines.proofs.numbers.read_solver_number.Goals.{else-is_negative-via-then-is_negative+else-eq, else-is_negative-via-else-is_negative}

pub returns : goal.returns
returns c =
    let digits : is_digits (digits_after_sign c.args.word.now) ≡ true = ap is_digits (sym c.without_minus-digits.ensures) ∙ sym c.if-not-has_digits_alone.ensures in
    let value : c.value_of_digits-magnitude.result ≡ kept_value (digits_value 10 (digits_after_sign c.args.word.now)) = c.value_of_digits-magnitude.ensures ∙ ap (λ ds. kept_value (digits_value 10 ds)) c.without_minus-digits.ensures in
    elim c.else-is_negative.branch [
      | else-is_negative-via-then-is_negative+else-eq w ↦ is_number c.args.word.now true _ (read_number c.args.word.now true (sym w.if-is_negative.ensures) digits (λ _. not_zero _ _ value (sym w.eq.ensures ∙ w.if-eq.false))) w.if-is_negative.true value
      | else-is_negative-via-else-is_negative w ↦ is_number c.args.word.now false _ (read_number c.args.word.now false (sym w.if-is_negative.ensures) digits (λ no. absurd (cc))) w.if-is_negative.false value
    ]
