use Rattle.std.proofs.Common.{◌∙◌, arith}
use Rattle.text_lines.proofs.Decimals.NumberLemmas.{too_large, one_more, within}
use Rattle.text_lines.proofs.numbers.value_of_digits.Goals as goal

pub returns-in_err-value : goal.returns-in_err-value
returns-in_err-value c = c.from_residual.ensures ∙ too_large _ c.args.digits.now c.loop-digit.digit-index c.loop-digit.value (omega arith) c.loop-digit.invariant.is c.in_err-value.ensures

pub loop-digit-preserved : goal.loop-digit-preserved
loop-digit-preserved c = one_more _ c.args.digits.now c.loop-digit.digit-index c.loop-digit.value c.in_ok-value.value (omega arith) c.loop-digit.invariant c.in_ok-value.ensures

pub returns : goal.returns
returns c = within _ c.args.digits.now c.loop-digit.digit-index c.loop-digit.value (omega arith) c.loop-digit.invariant
