-- Certificates of reasons that are accepted.
use Rattle.std.specs.Prelude.{◌≡◌, ◌⊎◌, true, ℕ, ℤ, List, [], ◌∷◌, ◌++◌, map, length, codes}
use Rattle.std.specs.List.{list_all, AllZip, Contains}
use Rattle.dimacs.specs.Literal.{is_clause_up_to}
use Rattle.lrat_check.specs.Checked.{IsAccepted}
use Rattle.lrat_check.specs.LratText.{AreStepLines}
use Rattle.lrat_check.specs.declared.derivation.Step.{Step}
use Rattle.order_clauses.specs.declared.order_pair.OrderPair.{OrderPair}
use Rattle.reason_check.specs.LineClauses.{MakeClauses}
use Rattle.reason_text.specs.Header.{is_header}
use Rattle.reason_text.specs.ReasonLine.{IsReasonLine}
use Rattle.reason_text.specs.declared.reason_line.ReasonLine.{ReasonLine}
use Rattle.text_lines.specs.Lines.{lines_of}
use Rattle.text_lines.specs.Words.{words_of}
use Rattle.trace_semantics.specs.Trace.{TraceValue}

-- none of the clauses is empty
abbrev pub NoneIsEmpty : List (List ℤ) → Type 0
NoneIsEmpty clauses = Contains clauses [] → ⊥

-- the last of the clauses is the first that is empty: no schedule can have one of its orders
abbrev pub EndsEmpty : List (List ℤ) → Type 0
EndsEmpty clauses = (others : List (List ℤ)) × (clauses ≡ others ++ [] ∷ []) × NoneIsEmpty others

-- the first of the lines is `p`, and the others are a derivation that is accepted for these clauses
pub record HasDerivation (clauses : List (List ℤ)) (rest : List (List ℕ)) : Type 0 where
  pub mark : List ℕ
  pub behind : List (List ℕ)
  pub parts : rest ≡ mark ∷ behind
  pub marked : words_of mark ≡ codes "p" ∷ []
  pub steps : List Step
  pub derived : AreStepLines behind steps
  pub accepted : IsAccepted clauses [] steps

-- The text is a certificate of reasons of this many clauses that is accepted of the trace: its first line is the header, and of the lines
-- after it some at the front make clauses of the trace, over variables that stand for pairs of operations. The last of these clauses is the
-- first that is empty; or none is empty, and what is left of the lines is a derivation that is accepted for them, as `vsc lrat` accepts one.
pub record IsAcceptedReasons (t : TraceValue) (text : List ℕ) (count : ℕ) : Type 0 where
  pub header : List ℕ
  pub front : List (List ℕ)
  pub rest : List (List ℕ)
  pub parts : lines_of text ≡ header ∷ (front ++ rest)
  pub headed : is_header (words_of header) ≡ true
  pub lines : List ReasonLine
  pub read : AllZip (IsReasonLine t) (map words_of front) lines
  pub variables : List OrderPair
  pub clauses : List (List ℤ)
  pub over : list_all (is_clause_up_to (length variables)) clauses ≡ true
  pub made : MakeClauses t variables lines clauses
  pub counted : count ≡ length clauses
  pub refuted : EndsEmpty clauses ⊎ (NoneIsEmpty clauses × HasDerivation clauses rest)
