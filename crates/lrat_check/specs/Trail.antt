-- The literals that are true, in the order in which they became so, and the marks of those that are.
use Rattle.std.specs.Prelude.{◌≡◌, ℕ, ℤ, Bool, not, List, [], ◌∷◌, ◌++◌, map}
use Rattle.lrat_check.specs.Marks.{place_of}
use Rattle.lrat_check.specs.Propagation.{has}
use Rattle.lrat_check.specs.declared.true_literals.TrueLiteral.{TrueLiteral}

abbrev pub literals_of : List TrueLiteral → List ℤ
literals_of trail = map (λ entry. entry.literal) trail

-- of each literal, whether it was not true when it became so, where those before were true
abbrev pub novelties : List ℤ → List ℤ → List Bool
novelties before [] = []
novelties before (z ∷ literals) = not (has before z) ∷ novelties (before ++ z ∷ []) literals

-- there is a mark for each literal that is true, and each entry says whether its literal was new
abbrev pub IsTrail : List TrueLiteral → (ℕ → Bool) → Type 0
IsTrail trail marks =
    ((z : ℤ) → marks (place_of z) ≡ has (literals_of trail) z) × (map (λ entry. entry.is_new) trail ≡ novelties [] (literals_of trail))
