-- The canonical text of a derivation.
use Rattle.std.specs.Prelude.{ℕ, ℤ, pos, List, ◌∷◌, ◌++◌, map, codes}
use Rattle.std.specs.Fmt.{decimal, signed_decimal}
use Rattle.std.specs.List.{flat_map}
use Rattle.lrat_check.specs.declared.derivation.Step.{Step}
use Rattle.lrat_check.specs.declared.derivation.Step.TheVariants.{Addition, Deletion}

-- numbers, each after a space, and then 0
abbrev pub list_text : List ℤ → List ℕ
list_text numbers = flat_map (λ z. 32 ∷ signed_decimal z) numbers ++ codes " 0"

-- a step as its line: words parted by single spaces, and a line feed
abbrev pub step_line : Step → List ℕ
step_line (Addition id literals hints) = decimal id ++ (list_text literals ++ (list_text hints ++ codes "\n"))
step_line (Deletion first ids) = decimal first ++ (codes " d" ++ (list_text (map pos ids) ++ codes "\n"))

-- one step a line
abbrev pub canonical_derivation : List Step → List ℕ
canonical_derivation steps = flat_map step_line steps
