-- The canonical text of a certificate.
use Rattle.std.specs.Prelude.{◌≡◌, ℕ, suc, ◌≤◌, true, List, [], ◌∷◌, ◌++◌, codes}
use Rattle.std.specs.Fmt.{decimal}
use Rattle.std.specs.List.{list_all, flat_map}
use Rattle.cube_tree.specs.CubeTree.{CubeTree}
use Rattle.cube_tree.specs.TreeText.{tree_text}
use Rattle.lrat_check.specs.LratText.{is_lrat_step}
use Rattle.lrat_check.specs.LratWritten.{canonical_derivation}
use Rattle.lrat_check.specs.declared.derivation.Step.{Step}
use Rattle.certificate.specs.CertLine.{most_number}
use Rattle.certificate.specs.declared.certificate.Certificate.{Certificate}
use Rattle.certificate.specs.declared.certificate.Section.{Section}

-- a section: its first line, its derivation and its last line
abbrev pub section_text : Section → List ℕ
section_text section = codes "proof " ++ (decimal section.leaf ++ (codes "\n" ++ (canonical_derivation section.derivation ++ codes "end\n")))

-- the header and the tree
abbrev pub front_text : CubeTree → List ℕ
front_text tree = codes "vsc-cert 1\n" ++ tree_text tree

-- the header, the tree and the sections, and no line that says nothing
abbrev pub canonical_certificate : Certificate → List ℕ
canonical_certificate certificate = front_text certificate.tree ++ flat_map section_text certificate.sections

-- these derivations as sections of this leaf and those after it
abbrev pub sections_from : ℕ → List (List Step) → List Section
sections_from leaf [] = []
sections_from leaf (steps ∷ derivations) = record { leaf = leaf; derivation = steps } ∷ sections_from (suc leaf) derivations

-- the certificate of a tree and of derivations for its leaves, by rising leaf
abbrev pub certificate_of : CubeTree → List (List Step) → Certificate
certificate_of tree derivations = record { tree = tree; sections = sections_from 0 derivations }

-- a section that can be written
pub record IsWritable (section : Section) : Type 0 where
  pub numbered : section.leaf ≤ most_number
  pub steps : list_all is_lrat_step section.derivation ≡ true

-- sections that can be written
abbrev pub AreWritable : List Section → Type 0
AreWritable [] = Unit {0}
AreWritable (section ∷ sections) = IsWritable section × AreWritable sections
