-- What the functions of the reader say of the parts of a text.
use Rattle.std.specs.Prelude.{◌≡◌, ◌≤◌, ℕ, ◌+◌, Bool, true, false, List, ◌∷◌, ◌++◌, length}
use Rattle.std.specs.List.{list_any}
use Rattle.text_lines.specs.Lines.{lines_of}
use Rattle.text_lines.specs.Words.{words_of}
use Rattle.cube_tree.specs.CubeTree.{CubeTree}
use Rattle.cube_tree.specs.TreeFault.{HasTreeFault}
use Rattle.cube_tree.specs.declared.tree_fault.TreeCause.{TreeCause}
use Rattle.lrat_check.specs.LratFaults.{HasLratFault}
use Rattle.lrat_check.specs.declared.lrat_fault.LratCause.{LratCause}
use Rattle.certificate.specs.CertCause.{of_tree}
use Rattle.certificate.specs.CertFaults.{HasSectionFault, HasCertFault}
use Rattle.certificate.specs.CertLine.{is_end}
use Rattle.certificate.specs.CertText.{AreSections, SpellsCertificate}
use Rattle.certificate.specs.declared.cert_fault.CertCause.{CertCause}
use Rattle.certificate.specs.declared.cert_fault.CertCause.TheVariants.{BadLrat}
use Rattle.certificate.specs.declared.certificate.Section.{Section}

-- whether the line ends a section
abbrev pub ends : List ℕ → Bool
ends line = is_end (words_of line)

-- the lines are `count` lines that end no section, and then others, of which the first ends one
pub record IsSectionCut (lines inside others : List (List ℕ)) (count : ℕ) : Type 0 where
  pub parts : lines ≡ inside ++ others
  pub counted : count ≡ length inside
  pub none : list_any ends inside ≡ false
  pub ended : (line : List ℕ) (behind : List (List ℕ)) → others ≡ line ∷ behind → ends line ≡ true

-- the text has its first fault as a derivation, which is reported after `before` lines
pub record HasLratFaultBehind (before : ℕ) (text : List ℕ) (cause : CertCause) (line : ℕ) : Type 0 where
  pub lrat_cause : LratCause
  pub place : ℕ
  pub fault : HasLratFault text lrat_cause place
  pub told : cause ≡ BadLrat
  pub counted : line ≡ before + place

-- the lines have their first fault, which is reported after `before` lines
pub record HasSectionFaultBehind (before : ℕ) (lines : List (List ℕ)) (cause : CertCause) (line : ℕ) : Type 0 where
  pub place : ℕ
  pub fault : HasSectionFault lines cause place
  pub counted : line ≡ before + place

-- the text has its first fault as a tree, which is reported after `before` lines
pub record HasTreeFaultBehind (before : ℕ) (text : List ℕ) (cause : CertCause) (line : ℕ) : Type 0 where
  pub tree_cause : TreeCause
  pub place : ℕ
  pub fault : HasTreeFault text tree_cause place
  pub told : cause ≡ of_tree tree_cause
  pub counted : line ≡ before + place

-- The sections were read off the text, which stands after `before` lines, and the rest stands after `number` lines: with the
-- sections of the rest they are those of the text, and a fault of the rest is one of the text.
pub record AreReadUpTo (before : ℕ) (text : List ℕ) (number : ℕ) (rest : List ℕ) (sections : List Section) : Type 0 where
  pub spelled : (more : List Section) → AreSections (lines_of rest) more → AreSections (lines_of text) (sections ++ more)
  pub faulty : (cause : CertCause) (line : ℕ) → HasSectionFaultBehind number (lines_of rest) cause line → HasSectionFaultBehind before (lines_of text) cause line
  pub behind : number + length rest ≤ before + length text

-- The text begins with a header and this tree, and the rest stands after `number` lines: its sections are those of the text, and a
-- fault of it is one of the text.
pub record BeginsWithTree (text : List ℕ) (tree : CubeTree) (number : ℕ) (rest : List ℕ) : Type 0 where
  pub spelled : (sections : List Section) → AreSections (lines_of rest) sections → SpellsCertificate text (record { tree = tree; sections = sections })
  pub faulty : (cause : CertCause) (line : ℕ) → HasSectionFaultBehind number (lines_of rest) cause line → HasCertFault text cause line
