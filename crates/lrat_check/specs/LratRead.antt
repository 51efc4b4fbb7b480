-- What the functions of the reader read off a line.
use Rattle.std.specs.Prelude.{◌≡◌, ℕ, ℤ, pos, Bool, true, false, List, ◌∷◌, ◌++◌, Option, Some}
use Rattle.std.specs.List.{list_all}
use Rattle.text_lines.specs.Kept.{is_dimacs_skipped}
use Rattle.text_lines.specs.Numbers.{solver_number}
use Rattle.text_lines.specs.Words.{words_of}
use Rattle.lrat_check.specs.declared.derivation.Step.{Step}
use Rattle.lrat_check.specs.declared.lrat_fault.LratCause.{LratCause}
use Rattle.lrat_check.specs.LratFaults.{list_fault}
use Rattle.lrat_check.specs.LratText.{is_lrat_step, IsStepLine, Says}

-- the words begin with these numbers, each of which passes, and nothing is wrong with them
pub record BeginsWith (fault : Option ℤ → Option LratCause) (passes : ℤ → Bool) (words : List (List ℕ)) (numbers : List ℤ) (rest : List (List ℕ)) : Type 0 where
  pub front : List (List ℕ)
  pub parts : words ≡ front ++ rest
  pub says : Says front numbers
  pub good : list_all passes numbers ≡ true
  pub faultless : (next : List (List ℕ) → Option LratCause) → list_fault fault next words ≡ list_fault fault next rest

-- the words begin with these numbers and 0
pub record BeginsWithList (fault : Option ℤ → Option LratCause) (passes : ℤ → Bool) (words : List (List ℕ)) (numbers : List ℤ) (rest : List (List ℕ)) : Type 0 where
  pub front : List (List ℕ)
  pub zero_word : List ℕ
  pub parts : words ≡ front ++ zero_word ∷ rest
  pub says : Says front numbers
  pub says_zero : solver_number zero_word ≡ Some (pos 0)
  pub good : list_all passes numbers ≡ true
  pub faultless : (next : List (List ℕ) → Option LratCause) → list_fault fault next words ≡ next rest

-- the line says nothing
abbrev pub IsSkippedLine : List ℕ → Type 0
IsSkippedLine line = is_dimacs_skipped (words_of line) ≡ true

-- the words are this step, which can be written
pub record IsWrittenStep (words : List (List ℕ)) (step : Step) : Type 0 where
  pub is : IsStepLine words step
  pub written : is_lrat_step step ≡ true

-- the line is not skipped and is this step
pub record IsLineOf (line : List ℕ) (step : Step) : Type 0 where
  pub said : is_dimacs_skipped (words_of line) ≡ false
  pub step_is : IsWrittenStep (words_of line) step
