use Rattle.std.proofs.Common.{◌-◌, ◌∙◌, arith, get_or, ap, sym}
use Rattle.std.specs.Char.{is_ascii_digit}
use Rattle.lrat_check.proofs.DerivationText.ShortNumberLemmas.{one_digit}
use Rattle.lrat_check.proofs.short_numbers.leading_digits.Goals as goal

pub loop-byte-preserved : goal.loop-byte-preserved
loop-byte-preserved c =
    let same = c.loop-byte.invariant.0 in (
      omega (arith, same),
      one_digit c.args.text.now c.loop-byte.value c.loop-byte.count c.from.result (omega (arith, same, c.loop-byte-test.true)) c.loop-byte.invariant.1
          (ap (λ k. is_ascii_digit (get_or c.args.text.now k 0)) same ∙ sym c.is_ascii_digit.ensures.value ∙ c.if-not-is_ascii_digit.false)
          (c.from.ensures ∙ ap (λ k. get_or c.args.text.now k 0 - 48) (sym same)),
    )
