use Rattle.text_lines.proofs.Decimals.PlainLemmas.{plain_exactly}
use Rattle.text_lines.proofs.numbers.plain_exactly_decimal.Goals as goal

pub returns : goal.returns
returns c = plain_exactly
