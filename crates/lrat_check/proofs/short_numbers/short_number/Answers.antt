use Rattle.std.proofs.Common.{arith}
use Rattle.lrat_check.proofs.DerivationText.ShortNumberLemmas.{few_digits_small}
use Rattle.lrat_check.proofs.short_numbers.short_number.Goals as goal

pub returns-clause-small : goal.returns-clause-small
returns-clause-small c =
    let read = c.leading_digits-value in
    few_digits_small c.args.text.now read.result.0 read.result.1 read.ensures.digits (omega (arith, c.if-count-gt-MOST_DIGITS.false))
