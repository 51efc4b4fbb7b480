use Rattle.std.proofs.Common.{◌+◌, ◌*◌, sym, subst, arith}
use Rattle.text_lines.proofs.Decimals.NumberLemmas.{AreFewDigits, one_more_digit}
use Rattle.text_lines.proofs.numbers.value_of_few.Goals as goal

pub loop-byte-preserved : goal.loop-byte-preserved
loop-byte-preserved c = subst (λ d. AreFewDigits c.args.word.now (c.loop-byte.byte-index + 1) (c.loop-byte.value * 10 + d)) (sym c.from.ensures)
    (one_more_digit c.args.word.now c.loop-byte.byte-index c.loop-byte.value (omega arith) c.loop-byte.invariant (sym c.if-not-is_ascii_digit.ensures.value))
