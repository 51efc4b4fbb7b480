-- The lines of a certificate of reasons that were read.
use Rattle.std.specs.Prelude.{◌≡◌, ◌⊎◌, ◌+◌, true, ℕ, ℤ, List, [], ◌∷◌, ◌++◌, length, map, Option, Some, None, codes}
use Rattle.std.specs.List.{AllZip}
use Rattle.lrat_check.specs.Checked.{IsAccepted}
use Rattle.lrat_check.specs.LratText.{SpellsDerivation}
use Rattle.lrat_check.specs.declared.derivation.Step.{Step}
use Rattle.order_clauses.specs.declared.reason_list.ReasonList.{ReasonList}
use Rattle.reason_check.specs.Accepted.{EndsEmpty, NoneIsEmpty}
use Rattle.reason_check.specs.Taken.{AreMade, IsTaken}
use Rattle.reason_check.specs.declared.clause_lines.DerivationText.{DerivationText}
use Rattle.reason_check.specs.declared.line_clause.LineOutcome.{LineOutcome}
use Rattle.reason_text.specs.Header.{is_header}
use Rattle.reason_text.specs.ReasonLine.{IsReasonLine}
use Rattle.reason_text.specs.declared.reason_line.ReasonLine.{ReasonLine}
use Rattle.text_lines.specs.Lines.{lines_of}
use Rattle.text_lines.specs.Words.{words_of}
use Rattle.trace_semantics.specs.Trace.{TraceValue}

-- the line with these words was read, and this came of it
pub record IsReadAndTaken (t : TraceValue) (words : List (List ℕ)) (old new : ReasonList) (outcome : LineOutcome) : Type 0 where
  pub line : ReasonLine
  pub read : IsReasonLine t words line
  pub taken : IsTaken t line old new outcome

-- the text is the header, lines that make the clauses of the list, and these lines
pub record IsReadTo (t : TraceValue) (text : List ℕ) (list : ReasonList) (rest : List (List ℕ)) : Type 0 where
  pub header : List ℕ
  pub front : List (List ℕ)
  pub parts : lines_of text ≡ header ∷ (front ++ rest)
  pub headed : is_header (words_of header) ≡ true
  pub lines : List ReasonLine
  pub read : AllZip (IsReasonLine t) (map words_of front) lines
  pub made : AreMade t lines list

-- and none of the clauses is empty, so that these lines are wanted too
abbrev pub IsReadOn : TraceValue → List ℕ → ReasonList → List (List ℕ) → Type 0
IsReadOn t text list rest = IsReadTo t text list rest × NoneIsEmpty list.clauses.items

-- this many of the text's lines are in front of these, which are its last ones
abbrev pub AreBefore : List ℕ → List (List ℕ) → ℕ → Type 0
AreBefore text rest before = before + length rest ≡ length (lines_of text)

abbrev pub IsReadBehind : TraceValue → List ℕ → ReasonList → ℕ → List (List ℕ) → Type 0
IsReadBehind t text list before rest = IsReadOn t text list rest × AreBefore text rest before

-- the text is what follows the line `p`, which is the first of these lines; or there are none
abbrev pub IsBehindMark : List ℕ → List (List ℕ) → Type 0
IsBehindMark text rest = ((mark : List ℕ) × (rest ≡ mark ∷ lines_of text) × (words_of mark ≡ codes "p" ∷ [])) ⊎ ((rest ≡ []) × (lines_of text ≡ []))

-- the lines were read up to the derivation, and no clause is empty; or up to the first that makes an empty clause
abbrev pub IsReadUpTo : TraceValue → List ℕ → ReasonList → Option DerivationText → Type 0
IsReadUpTo t text list (Some derivation) =
    (rest : List (List ℕ)) × IsReadOn t text list rest × IsBehindMark derivation.text.now rest × AreBefore text (lines_of derivation.text.now) derivation.before
IsReadUpTo t text list None = (rest : List (List ℕ)) × IsReadTo t text list rest × EndsEmpty list.clauses.items

-- the text spells a derivation that is accepted for these clauses
abbrev pub IsDerivationFor : List (List ℤ) → List ℕ → Type 0
IsDerivationFor clauses text = (steps : List Step) × SpellsDerivation text steps × IsAccepted clauses [] steps
