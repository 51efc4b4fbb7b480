use Rattle.text_lines.proofs.Cutting.LineLemmas.{word_ended, one_word}
use Rattle.text_lines.proofs.words.ended_word_is_first.Goals as goal

pub returns : goal.returns
returns c = record { ended = word_ended; last = one_word }
