use Rattle.stop_word.proofs.LawLemmas as lemma
use Rattle.stop_word.proofs.laws.word_is_a_mark.Goals as goal

pub returns : goal.returns
returns c = lemma.word_is_a_mark
