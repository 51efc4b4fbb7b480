-- What the reader of a solver's answer has read so far.
use Rattle.std.specs.Prelude.{◌≡◌, ℕ, zero, suc, ℤ, pos, negsuc, neg_ℤ, Bool, true, false, ◌||◌, List, [], ◌∷◌, ◌++◌, map, Some}
use Rattle.std.specs.List.{list_any}
use Rattle.std.specs.Ordering.{int_eq}
use Rattle.text_lines.specs.FirstFault.{IsFaultless}
use Rattle.text_lines.specs.Words.{words_of}
use Rattle.model_text.specs.declared.model_fault.ModelCause.{ModelCause}
use Rattle.model_text.specs.declared.model_fault.ModelCause.TheVariants.{Clash}
use Rattle.text_lines.specs.Fault.{IsRefusal}
use Rattle.text_lines.specs.declared.fault.PlacedFault.{PlacedFault}
use Rattle.model_text.specs.declared.model_line.ModelLine.{ModelLine}
use Rattle.model_text.specs.declared.model_line.ModelLine.TheVariants.{Skipped, Words, Unsatisfiable as NoModel, Unknown as Other}
use Rattle.model_text.specs.declared.model_reader.ModelReader.{ModelReader}
use Rattle.model_text.specs.declared.model_line.ModelNumber.{ModelNumber}
use Rattle.model_text.specs.declared.model_line.ModelNumber.TheVariants.{Zero, Literal}
use Rattle.dimacs.specs.Assignment.{value_of}
use Rattle.model_text.specs.ModelText.{Said, Word, Unsatisfiable, Unknown}
use Rattle.model_text.specs.ModelFirstFault.{writes, model_fault}

-- what a line says, as the code keeps it
abbrev pub said_by : ModelLine → List Said
said_by Skipped = []
said_by (Words rest) = map Word (words_of rest.now)
said_by NoModel = Unsatisfiable ∷ []
said_by Other = Unknown ∷ []

-- a number as the code keeps it
abbrev pub number_of : ModelNumber → ℤ
number_of Zero = pos 0
number_of (Literal literal) = literal

-- the reader has this number among those so far
abbrev pub has_number : ModelReader → ℤ → Bool
has_number reader (pos zero) = reader.ended
has_number reader (pos (suc k)) = value_of reader.positive.items (suc k)
has_number reader (negsuc k) = value_of reader.negative.items (suc k)

-- the new reader has one number more
abbrev pub HasNumberMore : ℤ → ModelReader → ModelReader → Type 0
HasNumberMore number old new = (z : ℤ) → has_number new z ≡ (int_eq z number || has_number old z)

-- the number is taken, whose negation has not come
pub record TakesNumber (number : ℤ) (old new : ModelReader) : Type 0 where
  pub apart : has_number old (neg_ℤ number) ≡ false
  pub more : HasNumberMore number old new

-- nothing so far has a fault, and the reader has its numbers
pub record IsModelProgress (before : List (ℕ × Said)) (reader : ModelReader) : Type 0 where
  pub clear : IsFaultless model_fault before
  pub numbers : (z : ℤ) → has_number reader z ≡ list_any (writes z) before

-- after what was said before, the first fault of these things
pub record IsNextFault (before things : List (ℕ × Said)) (cause : ModelCause) (line : ℕ) : Type 0 where
  pub front : List (ℕ × Said)
  pub thing : ℕ × Said
  pub back : List (ℕ × Said)
  pub parts : things ≡ front ++ thing ∷ back
  pub faulty : model_fault (before ++ front) thing ≡ Some (cause, line)
  pub first : IsFaultless model_fault (before ++ front)

-- a refusal of these things after what was said before
abbrev pub IsNextRefusal : List (ℕ × Said) → List (ℕ × Said) → PlacedFault ModelCause → Type 0
IsNextRefusal before things fault = IsRefusal (IsNextFault before things) fault

-- after what it has read, the reader takes these things
abbrev pub TakesThings : List (ℕ × Said) → ModelReader → ModelReader → Type 0
TakesThings things old new = (before : List (ℕ × Said)) → IsModelProgress before old → IsModelProgress (before ++ things) new

-- after what it has read, the reader refuses these things
abbrev pub RefusesThings : List (ℕ × Said) → ModelReader → PlacedFault ModelCause → Type 0
RefusesThings things reader fault = (before : List (ℕ × Said)) → IsModelProgress before reader → IsNextRefusal before things fault

-- the literal's negation came before, or there was no memory
abbrev pub IsClash : Bool → ℕ → PlacedFault ModelCause → Type 0
IsClash clash line fault = IsRefusal (λ cause place. (clash ≡ true) × (cause ≡ Clash) × (place ≡ line)) fault
