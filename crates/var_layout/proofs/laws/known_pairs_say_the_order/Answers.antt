use Rattle.var_layout.proofs.KnownPairs.SaidLemmas.{listed_known, known_listed}
use Rattle.var_layout.proofs.laws.known_pairs_say_the_order.Goals as goal

pub returns : goal.returns
returns c = record {
  listed = λ t m n ok known. known_listed t ok m n known;
  known = λ t i j ok listed. (let at = listed_known t ok i j listed in (at.first, at.second, at.first_at, at.second_at, at.known));
}
