use Rattle.clause_meaning.proofs.MeaningLemmas.{all_said}
use Rattle.clause_meaning.proofs.laws.clauses_say_their_meanings.Goals as goal

pub returns : goal.returns
returns c t = all_said t
