-- The text of a solver's answer (SAT competitions), and the model that it spells.
use Rattle.std.specs.Prelude.{◌≡◌, ◌↔◌, ℕ, ℤ, pos, neg_ℤ, nat_abs, Bool, true, List, [], ◌∷◌, ◌++◌, map, Option, Some, None, codes, nat_le, if◌then◌else◌}
use Rattle.std.specs.List.{Contains, flat_map}
use Rattle.std.specs.Option.{option_and_then}
use Rattle.std.specs.Str.{bytes_eq}
use Rattle.text_lines.specs.Kept.{is_dimacs_skipped}
use Rattle.text_lines.specs.Lines.{lines_of}
use Rattle.text_lines.specs.Numbers.{solver_number}
use Rattle.text_lines.specs.Words.{words_of}
use Rattle.dimacs.specs.Assignment.{value_of}
use Rattle.dimacs.specs.Literal.{most_variable, is_clause}

-- what a word after a `v`, a line of another kind, or the end of the text says
pub data Said : Type 0 where
  -- a word after a `v`
  Word : (word : List ℕ) → Said
  -- that there is no model
  Unsatisfiable : Said
  -- what no answer says
  Unknown : Said
  -- the end of the text
  End : Said

-- what a line says whose first word is `s`, by its other words
abbrev pub status : List (List ℕ) → List Said
status (word ∷ []) =
    if bytes_eq word (codes "SATISFIABLE") then []
    else if bytes_eq word (codes "UNSATISFIABLE") then Unsatisfiable ∷ []
    else Unknown ∷ []
status words = Unknown ∷ []

-- What a line says, by its words. A line that is skipped says nothing.
abbrev pub said : List (List ℕ) → List Said
said [] = []
said (first ∷ words) =
    if is_dimacs_skipped (first ∷ words) then []
    else if bytes_eq first (codes "v") then map Word words
    else if bytes_eq first (codes "s") then status words
    else Unknown ∷ []

-- a number that a model may have
abbrev pub small : ℤ → Option ℤ
small z = if nat_le (nat_abs z) most_variable then Some z else None

-- the number that a word of a model writes: 0, or a literal
abbrev pub model_number : List ℕ → Option ℤ
model_number word = option_and_then small (solver_number word)

-- The lines say words alone, which are literals, none beside its negation, and then one zero. A variable is true exactly
-- where its positive literal is among them.
pub record SpellsModel (text : List ℕ) (values : List Bool) : Type 0 where
  pub words : List (List ℕ)
  pub literals : List ℤ
  pub lines : flat_map (λ line. said (words_of line)) (lines_of text) ≡ map Word words
  pub numbers : map model_number words ≡ map Some (literals ++ pos 0 ∷ [])
  pub written : is_clause literals ≡ true
  pub apart : (z : ℤ) → Contains literals z → Contains literals (neg_ℤ z) → ⊥
  pub true_variables : (n : ℕ) → (value_of values n ≡ true) ↔ Contains literals (pos n)
