use Rattle.reason_text.proofs.FaultLemmas.{value_read}
use Rattle.reason_text.proofs.line_words.read_value.Goals as goal

pub returns : goal.returns
returns c = value_read c.read_plain.result c.args.word.now c.read_plain.ensures
