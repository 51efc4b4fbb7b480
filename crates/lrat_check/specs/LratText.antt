-- The text of a derivation (LRAT, CADE 2017).
use Rattle.std.specs.Prelude.{◌≡◌, ℕ, ℤ, pos, nat_abs, Bool, true, List, [], ◌∷◌, ◌++◌, map, Some, ◌&&◌, nat_lt, nat_le, codes}
use Rattle.std.specs.List.{list_all, AllZip}
use Rattle.dimacs.specs.Literal.{is_clause}
use Rattle.text_lines.specs.Kept.{dimacs_kept}
use Rattle.text_lines.specs.Lines.{lines_of}
use Rattle.text_lines.specs.Numbers.{solver_number}
use Rattle.lrat_check.specs.declared.derivation.Step.{Step}
use Rattle.lrat_check.specs.declared.derivation.Step.TheVariants.{Addition, Deletion}

-- the largest id
abbrev pub most_id : ℕ
most_id = 9223372036854775807

-- an id of a clause
abbrev pub is_id : ℕ → Bool
is_id n = nat_lt 0 n && nat_le n most_id

-- whether the absolute value is an id, as that of a hint is
abbrev pub is_id_number : ℤ → Bool
is_id_number z = is_id (nat_abs z)

-- a step that can be written
abbrev pub is_lrat_step : Step → Bool
is_lrat_step (Addition id literals hints) = is_id id && (is_clause literals && list_all is_id_number hints)
is_lrat_step (Deletion first ids) = nat_le first most_id && list_all is_id ids

-- the words are these numbers
abbrev pub Says : List (List ℕ) → List ℤ → Type 0
Says words numbers = map solver_number words ≡ map Some numbers

-- the numbers, and 0 at the end
abbrev pub ended : List ℤ → List ℤ
ended numbers = numbers ++ pos 0 ∷ []

-- The words are this step: an id, literals, 0, hints and 0; or a number, the word `d`, ids and 0.
abbrev pub IsStepLine : List (List ℕ) → Step → Type 0
IsStepLine words (Addition id literals hints) = Says words (pos id ∷ (ended literals ++ ended hints))
IsStepLine words (Deletion first ids) =
    (number : List ℕ) × (rest : List (List ℕ)) × (words ≡ number ∷ (codes "d" ∷ rest)) × (solver_number number ≡ Some (pos first)) × Says rest (ended (map pos ids))

-- the lines that are not skipped are the steps
pub record AreStepLines (lines : List (List ℕ)) (steps : List Step) : Type 0 where
  pub lines_are : AllZip IsStepLine (dimacs_kept lines) steps
  pub written : list_all is_lrat_step steps ≡ true

abbrev pub SpellsDerivation : List ℕ → List Step → Type 0
SpellsDerivation text steps = AreStepLines (lines_of text) steps
