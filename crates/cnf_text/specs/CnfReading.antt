-- What the text of a formula spells, and its first fault.
use Rattle.std.specs.Prelude.{◌≡◌, ◌⊎◌, ℕ, ℤ, pos, Bool, true, false, not, List, [], ◌∷◌, ◌++◌, length, map, drop, Option, Some, None, ◌==◌, ◌&&◌, ◌-◌, nat_le, nat_lt, codes, if◌then◌else◌}
use Rattle.std.specs.List.{filter, flat_map, list_all}
use Rattle.std.specs.Str.{bytes_eq}
use Rattle.std.specs.Str.Parse.{digits_value}
use Rattle.text_lines.specs.FirstFault.{IsFaultless, IsFirstFault}
use Rattle.text_lines.specs.Numbers.{digits_up_to, digits_after_sign, is_solver_number, solver_number}
use Rattle.cnf_text.specs.CnfLines.{said_lines, end_line, placed_words}
use Rattle.dimacs.specs.Formula.{FormulaValue, is_formula}
use Rattle.dimacs.specs.Literal.{most_variable}
use Rattle.cnf_text.specs.declared.cnf_fault.CnfCause.{CnfCause}
use Rattle.cnf_text.specs.declared.cnf_fault.CnfCause.TheVariants.{NoHeader, BadHeader, BadNumber, VariableTooLarge, CountMismatch, Unended, Trailing}

-- how many variables and clauses a header announces
pub record Header : Type 0 where
  pub variables : ℕ
  pub clauses : ℕ

abbrev pub header_of_counts : Option ℕ → Option ℕ → Option Header
header_of_counts (Some variables) (Some clauses) = Some (record { variables = variables; clauses = clauses })
header_of_counts variables clauses = None

-- the first word is `p`
abbrev pub begins_header : List (List ℕ) → Bool
begins_header (word ∷ words) = bytes_eq word (codes "p")
begins_header [] = false

-- the words `p` and `cnf`, and two numbers of digits alone, up to 4194304 and up to 16777216
abbrev pub header_of : List (List ℕ) → Option Header
header_of (p ∷ format ∷ variables ∷ clauses ∷ []) =
    if bytes_eq p (codes "p") && bytes_eq format (codes "cnf") then header_of_counts (digits_up_to most_variable variables) (digits_up_to 16777216 clauses) else None
header_of words = None

-- the literals of a clause, and 0 at its end
abbrev pub ended : List ℤ → List ℤ
ended clause = clause ++ pos 0 ∷ []

-- The first line that says something is a header of the formula's counts, and the numbers that the other words write are the
-- literals of the clauses, each clause ended by 0.
pub record SpellsCnf (text : List ℕ) (f : FormulaValue) : Type 0 where
  pub first : ℕ × List (List ℕ)
  pub rest : List (ℕ × List (List ℕ))
  pub lines : said_lines text ≡ first ∷ rest
  pub header : header_of first.1 ≡ Some (record { variables = f.variables; clauses = length f.clauses })
  pub numbers : map (λ (word : ℕ × List ℕ). solver_number word.1) (placed_words rest) ≡ map Some (flat_map ended f.clauses)
  pub formula : is_formula f ≡ true

-- the word writes 0
abbrev pub is_zero : ℕ × List ℕ → Bool
is_zero word = is_solver_number word.1 && (digits_value 10 (digits_after_sign word.1) == 0)

-- how many clauses the words end
abbrev pub ends_of : List (ℕ × List ℕ) → ℕ
ends_of words = length (filter is_zero words)

-- what is wrong with a word as a number
abbrev pub number_fault : ℕ → List ℕ → Option CnfCause
number_fault variables word =
    if not (is_solver_number word) then Some BadNumber
    else if nat_lt variables (digits_value 10 (digits_after_sign word)) then Some VariableTooLarge
    else None

-- what is wrong with a word after that many clauses
abbrev pub fault_after : Header → ℕ → List ℕ → Option CnfCause
fault_after h complete word = if nat_le h.clauses complete then Some Trailing else number_fault h.variables word

-- what is wrong with a word after the words before it
abbrev pub word_fault : Header → List (ℕ × List ℕ) → ℕ × List ℕ → Option CnfCause
word_fault h before word = fault_after h (ends_of before) word.1

-- what is wrong with the words as a whole, where none of them has a fault: the last one is no 0, or there are too few clauses
abbrev pub whole_fault : Header → List (ℕ × List ℕ) → Option CnfCause
whole_fault h words =
    if not (list_all is_zero (drop (length words - 1) words)) then Some Unended
    else if nat_lt (ends_of words) h.clauses then Some CountMismatch
    else None

-- the first word with a fault stands at this line
pub record HasWordFault (h : Header) (words : List (ℕ × List ℕ)) (cause : CnfCause) (line : ℕ) : Type 0 where
  pub place : ℕ
  pub first : IsFirstFault (word_fault h) words place cause
  pub stands : line ≡ first.item.0

-- no word has a fault, but the whole has
pub record HasWholeFault (h : Header) (words : List (ℕ × List ℕ)) (end : ℕ) (cause : CnfCause) (line : ℕ) : Type 0 where
  pub clear : IsFaultless (word_fault h) words
  pub faulty : whole_fault h words ≡ Some cause
  pub stands : line ≡ end

abbrev pub HasBodyFault : Header → List (ℕ × List ℕ) → ℕ → CnfCause → ℕ → Type 0
HasBodyFault h words end cause line = HasWordFault h words cause line ⊎ HasWholeFault h words end cause line

-- what is wrong with a first line that is no header
abbrev pub header_cause : List (List ℕ) → CnfCause
header_cause words = if begins_header words then BadHeader else NoHeader

abbrev pub HasFaultAfter : Option Header → ℕ × List (List ℕ) → List (ℕ × List (List ℕ)) → ℕ → CnfCause → ℕ → Type 0
HasFaultAfter None first rest end cause line = (cause ≡ header_cause first.1) × (line ≡ first.0)
HasFaultAfter (Some h) first rest end cause line = HasBodyFault h (placed_words rest) end cause line

abbrev pub HasFaultIn : List (ℕ × List (List ℕ)) → ℕ → CnfCause → ℕ → Type 0
HasFaultIn [] end cause line = (cause ≡ NoHeader) × (line ≡ end)
HasFaultIn (first ∷ rest) end cause line = HasFaultAfter (header_of first.1) first rest end cause line

-- the text has its first fault at this line, counted from 1
abbrev pub HasCnfFault : List ℕ → CnfCause → ℕ → Type 0
HasCnfFault text cause line = HasFaultIn (said_lines text) (end_line text) cause line
