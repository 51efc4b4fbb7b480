-- The first fault of a certificate's text.
use Rattle.std.specs.Prelude.{◌≡◌, ◌⊎◌, ℕ, ◌+◌, Bool, true, false, not, List, [], ◌∷◌, ◌++◌, length, drop, Option, Some, None, is_some, if◌then◌else◌}
use Rattle.std.specs.List.{list_all}
use Rattle.std.specs.Option.{option_map}
use Rattle.text_lines.specs.FirstFault.{IsFaultless, IsFirstFault}
use Rattle.text_lines.specs.Lines.{lines_of}
use Rattle.text_lines.specs.Words.{words_of}
use Rattle.cube_tree.specs.CubeTree.{CubeTree}
use Rattle.cube_tree.specs.TreeFault.{HasTreeFault}
use Rattle.cube_tree.specs.TreeText.{tree_lines, SpellsTree}
use Rattle.cube_tree.specs.declared.tree_fault.TreeCause.{TreeCause}
use Rattle.lrat_check.specs.LratFaults.{line_fault}
use Rattle.certificate.specs.CertCause.{of_tree}
use Rattle.certificate.specs.CertLine.{is_skipped_line, is_header, begun_by, is_end}
use Rattle.certificate.specs.CertText.{IsHeaded}
use Rattle.certificate.specs.declared.cert_fault.CertCause.{CertCause}
use Rattle.certificate.specs.declared.cert_fault.CertCause.TheVariants.{Header, BadLine, BadLrat}

-- the first line that says something is no header
pub record IsNoHeader (lines : List (List ℕ)) (line : ℕ) : Type 0 where
  pub before : List (List ℕ)
  pub first : List ℕ
  pub after : List (List ℕ)
  pub parts : lines ≡ before ++ first ∷ after
  pub counted : line ≡ length before + 1
  pub silent : list_all is_skipped_line before ≡ true
  pub said : is_skipped_line first ≡ false
  pub other : is_header (words_of first) ≡ false

-- no line says anything
pub record IsSilent (lines : List (List ℕ)) (line : ℕ) : Type 0 where
  pub silent : list_all is_skipped_line lines ≡ true
  pub behind : line ≡ length lines + 1

-- the header is missing, which is reported of the first line that says something, or of the line after the last
abbrev pub LacksHeader : List ℕ → CertCause → ℕ → Type 0
LacksHeader text cause line = (cause ≡ Header) × (IsNoHeader (lines_of text) line ⊎ IsSilent (lines_of text) line)

-- the text after the header has a fault in its tree
pub record HasFaultInTree (text : List ℕ) (cause : CertCause) (line : ℕ) : Type 0 where
  pub behind : List ℕ
  pub header : ℕ
  pub tree_cause : TreeCause
  pub place : ℕ
  pub headed : IsHeaded text behind header
  pub fault : HasTreeFault behind tree_cause place
  pub told : cause ≡ of_tree tree_cause
  pub counted : line ≡ header + place

-- Whether a section is open after these lines, where one was open before them or not: a line `proof K` opens one where none is
-- open, and a line `end` closes it.
abbrev pub is_open_behind : Bool → List (List ℕ) → Bool
is_open_behind begun [] = begun
is_open_behind begun (line ∷ lines) = is_open_behind (if begun then not (is_end (words_of line)) else is_some (begun_by (words_of line))) lines

-- what is wrong with a line in an open section, which may end it: what is wrong with it as a line of a derivation
abbrev pub fault_inside : List ℕ → Option CertCause
fault_inside line = if is_end (words_of line) then None else option_map (λ cause. BadLrat) (line_fault [] line)

-- what is wrong with a line outside of sections, which may begin one
abbrev pub fault_outside : List ℕ → Option CertCause
fault_outside line = if is_skipped_line line then None else if is_some (begun_by (words_of line)) then None else Some BadLine

-- what is wrong with a line after the lines before it, after the tree
abbrev pub section_line_fault : List (List ℕ) → List ℕ → Option CertCause
section_line_fault before line = if is_open_behind false before then fault_inside line else fault_outside line

-- no line has a fault, and a section is open at the end
pub record EndsOpen (lines : List (List ℕ)) (cause : CertCause) (line : ℕ) : Type 0 where
  pub faultless : IsFaultless section_line_fault lines
  pub left_open : is_open_behind false lines ≡ true
  pub bad : cause ≡ BadLine
  pub behind : line ≡ length lines + 1

-- The lines after the tree have their first fault at this one, counted from 1. If they end within a section, that is the line after
-- the last.
abbrev pub HasSectionFault : List (List ℕ) → CertCause → ℕ → Type 0
HasSectionFault lines cause line = IsFirstFault section_line_fault lines line cause ⊎ EndsOpen lines cause line

-- the text has its tree, and a fault after it
pub record HasFaultInSections (text : List ℕ) (cause : CertCause) (line : ℕ) : Type 0 where
  pub behind : List ℕ
  pub header : ℕ
  pub tree : CubeTree
  pub bytes : ℕ
  pub place : ℕ
  pub headed : IsHeaded text behind header
  pub spelled : SpellsTree behind tree bytes
  pub fault : HasSectionFault (lines_of (drop bytes behind)) cause place
  pub counted : line ≡ (header + length (tree_lines tree)) + place

-- The text has its first fault at this line, counted from 1: it has no header; or it has it, and there is a fault in its tree; or it
-- has both, and there is a fault in its sections.
abbrev pub HasCertFault : List ℕ → CertCause → ℕ → Type 0
HasCertFault text cause line = LacksHeader text cause line ⊎ (HasFaultInTree text cause line ⊎ HasFaultInSections text cause line)
