-- The text of a certificate: a header, a tree and sections.
use Rattle.std.specs.Prelude.{◌≡◌, ℕ, ◌+◌, true, List, [], ◌∷◌, ◌++◌, length, drop, Some}
use Rattle.std.specs.List.{list_all}
use Rattle.text_lines.specs.Lines.{lines_of}
use Rattle.text_lines.specs.Words.{words_of}
use Rattle.cube_tree.specs.TreeText.{SpellsTree}
use Rattle.lrat_check.specs.LratText.{AreStepLines}
use Rattle.certificate.specs.CertLine.{is_skipped_line, is_header, begun_by, is_end}
use Rattle.certificate.specs.declared.certificate.Certificate.{Certificate}
use Rattle.certificate.specs.declared.certificate.Section.{Section}

-- the line of this number, counted from 1, is the header, lines before it say nothing, and those of the other text are after it
pub record IsHeaded (text behind : List ℕ) (line : ℕ) : Type 0 where
  pub before : List (List ℕ)
  pub header : List ℕ
  pub parts : lines_of text ≡ before ++ header ∷ lines_of behind
  pub counted : line ≡ length before + 1
  pub silent : list_all is_skipped_line before ≡ true
  pub says : is_header (words_of header) ≡ true

-- The lines begin with a section, and these are after it: a line `proof` and the leaf's number, which lines that say nothing may
-- stand before, the lines of the derivation, and a line `end`.
pub record BeginWithSection (lines : List (List ℕ)) (section : Section) (behind : List (List ℕ)) : Type 0 where
  pub before : List (List ℕ)
  pub first : List ℕ
  pub steps : List (List ℕ)
  pub last : List ℕ
  pub parts : lines ≡ before ++ first ∷ (steps ++ last ∷ behind)
  pub silent : list_all is_skipped_line before ≡ true
  pub begins : begun_by (words_of first) ≡ Some section.leaf
  pub derivation : AreStepLines steps section.derivation
  pub ends : is_end (words_of last) ≡ true

-- the lines are these sections, and other lines say nothing
abbrev pub AreSections : List (List ℕ) → List Section → Type 0
AreSections lines [] = list_all is_skipped_line lines ≡ true
AreSections lines (section ∷ sections) = (behind : List (List ℕ)) × BeginWithSection lines section behind × AreSections behind sections

-- The header is first; at once after it stands the text of the tree; all other lines are the sections.
pub record SpellsCertificate (text : List ℕ) (certificate : Certificate) : Type 0 where
  pub behind : List ℕ
  pub line : ℕ
  pub bytes : ℕ
  pub headed : IsHeaded text behind line
  pub tree : SpellsTree behind certificate.tree bytes
  pub sections : AreSections (lines_of (drop bytes behind)) certificate.sections
