-- Sets of words, as functions.
use Rattle.std.specs.Prelude.{ℕ, Bool, List, is_some}
use Rattle.std.specs.HashMap.{get_by}
use Rattle.std.specs.Str.{bytes_eq}
use Rattle.survey_verdict.specs.declared.word_set.WordSet.{WordSet}

-- the word is in the set
abbrev pub has : WordSet → List ℕ → Bool
has set word = is_some (get_by (λ k. bytes_eq word k.now) set.members)
