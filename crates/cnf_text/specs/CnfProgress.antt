-- What a reader of a formula's text has made of the words so far.
use Rattle.std.specs.Prelude.{◌≡◌, ◌⊎◌, ◌<◌, ◌≤◌, ◌-◌, ℕ, ℤ, pos, true, List, [], ◌∷◌, ◌++◌, length, map, drop, not, Option, Some, None, nat_lt, if◌then◌else◌}
use Rattle.std.specs.List.{flat_map, list_all}
use Rattle.text_lines.specs.FirstFault.{IsFaultless}
use Rattle.text_lines.specs.Numbers.{solver_number}
use Rattle.text_lines.specs.Words.{words_of, is_empty}
use Rattle.cnf_text.specs.CnfLines.{words_of_line}
use Rattle.cnf_text.specs.CnfReading.{Header, ended, is_zero, ends_of, fault_after, word_fault, HasWordFault, HasBodyFault}
use Rattle.dimacs.specs.Literal.{is_literal_up_to, is_clause_up_to}
use Rattle.cnf_text.specs.declared.cnf_fault.CnfCause.{CnfCause}
use Rattle.cnf_text.specs.declared.cnf_fault.CnfCause.TheVariants.{CountMismatch, Unended}
use Rattle.text_lines.specs.Fault.{IsRefusal, IsRefusalAt}
use Rattle.text_lines.specs.declared.fault.PlacedFault.{PlacedFault}

-- the words write these clauses and then the literals of one that is not ended yet, and none of them has a fault
pub record AreClauses (h : Header) (words : List (ℕ × List ℕ)) (clauses : List (List ℤ)) (begun : List ℤ) : Type 0 where
  pub numbers : map (λ (word : ℕ × List ℕ). solver_number word.1) words ≡ map Some (flat_map ended clauses ++ begun)
  pub within : list_all (is_clause_up_to h.variables) clauses ≡ true
  pub literals : is_clause_up_to h.variables begun ≡ true
  pub few : length clauses ≤ h.clauses
  pub counted : ends_of words ≡ length clauses
  pub last : list_all is_zero (drop (length words - 1) words) ≡ is_empty begun
  pub clear : IsFaultless (word_fault h) words

-- a word that ends a clause, and one that is its next literal
pub record EndsClause (word : List ℕ) (clauses : List (List ℤ)) (begun : List ℤ) (new_clauses : List (List ℤ)) (new_begun : List ℤ) : Type 0 where
  pub number : solver_number word ≡ Some (pos 0)
  pub clause : new_clauses ≡ clauses ++ begun ∷ []
  pub none : new_begun ≡ []

pub record AddsLiteral (variables : ℕ) (word : List ℕ) (clauses : List (List ℤ)) (begun : List ℤ) (new_clauses : List (List ℤ)) (new_begun : List ℤ) : Type 0 where
  pub literal : ℤ
  pub number : solver_number word ≡ Some literal
  pub small : is_literal_up_to variables literal ≡ true
  pub kept : new_clauses ≡ clauses
  pub added : new_begun ≡ begun ++ literal ∷ []

-- a word is taken where there is room for a clause
pub record TakesWord (h : Header) (word : List ℕ) (clauses : List (List ℤ)) (begun : List ℤ) (new_clauses : List (List ℤ)) (new_begun : List ℤ) : Type 0 where
  pub room : length clauses < h.clauses
  pub taken : EndsClause word clauses begun new_clauses new_begun ⊎ AddsLiteral h.variables word clauses begun new_clauses new_begun

-- a refusal of a word after that many clauses
abbrev pub IsWordRefusal : Header → ℕ → ℕ → List ℕ → PlacedFault CnfCause → Type 0
IsWordRefusal h complete number word fault = IsRefusalAt (λ cause. fault_after h complete word ≡ Some cause) number fault

-- the words of a line are taken
abbrev pub TakesLine : Header → ℕ → List ℕ → List (List ℤ) → List ℤ → List (List ℤ) → List ℤ → Type 0
TakesLine h number line clauses begun new_clauses new_begun =
    (words : List (ℕ × List ℕ)) → AreClauses h words clauses begun → AreClauses h (words ++ words_of_line (number, words_of line)) new_clauses new_begun

-- a refusal of a line is one of the words, whatever follows
abbrev pub IsLineRefusal : Header → ℕ → List ℕ → List (List ℤ) → List ℤ → PlacedFault CnfCause → Type 0
IsLineRefusal h number line clauses begun fault = IsRefusal (λ cause place.
    (words later : List (ℕ × List ℕ)) → AreClauses h words clauses begun → HasWordFault h (words ++ (words_of_line (number, words_of line) ++ later)) cause place) fault

-- what is wrong where the text ends after these clauses and these literals of one that is not ended
abbrev pub fault_at_end : Header → List (List ℤ) → List ℤ → Option CnfCause
fault_at_end h clauses begun = if not (is_empty begun) then Some Unended else if nat_lt (length clauses) h.clauses then Some CountMismatch else None

-- the words write the clauses that a header announces
pub record AreBody (h : Header) (words : List (ℕ × List ℕ)) (clauses : List (List ℤ)) : Type 0 where
  pub numbers : map (λ (word : ℕ × List ℕ). solver_number word.1) words ≡ map Some (flat_map ended clauses)
  pub within : list_all (is_clause_up_to h.variables) clauses ≡ true
  pub count : length clauses ≡ h.clauses

-- a refusal of the words after a header
abbrev pub IsBodyRefusal : Header → List (ℕ × List ℕ) → ℕ → PlacedFault CnfCause → Type 0
IsBodyRefusal h words end fault = IsRefusal (HasBodyFault h words end) fault
