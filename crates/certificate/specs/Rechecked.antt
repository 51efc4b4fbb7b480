-- When a certificate is accepted, and what is wrong with it where it is not.
use Rattle.std.specs.Prelude.{◌≡◌, ◌⊎◌, ℕ, ◌<◌, ℤ, Bool, true, false, List, ◌∷◌, ◌++◌, Option, Some, None, ◌==◌, nat_le, nat_lt, if◌then◌else◌}
use Rattle.std.specs.List.{list_any, list_all, slice_get}
use Rattle.text_lines.specs.FirstFault.{IsFaultless, IsFirstFault}
use Rattle.cube_tree.specs.CubeTree.{leaves, cubes_of}
use Rattle.lrat_check.specs.Checked.{IsAccepted, IsRefused}
use Rattle.lrat_check.specs.Derivation.{are_steps}
use Rattle.lrat_check.specs.declared.refusal.StepFault.{StepFault}
use Rattle.certificate.specs.declared.cert_fault.CertCause.{CertCause}
use Rattle.certificate.specs.declared.cert_fault.CertCause.TheVariants.{Stranger, Double, Missing, Derivation}
use Rattle.certificate.specs.declared.certificate.Certificate.{Certificate}
use Rattle.certificate.specs.declared.certificate.Section.{Section}

-- whether the section is this leaf's
abbrev pub is_of : ℕ → Section → Bool
is_of leaf section = section.leaf == leaf

-- this section alone is the leaf's
pub record IsOnlyOf (sections : List Section) (leaf : ℕ) (section : Section) : Type 0 where
  pub before : List Section
  pub after : List Section
  pub parts : sections ≡ before ++ section ∷ after
  pub is : section.leaf ≡ leaf
  pub none_before : list_any (is_of leaf) before ≡ false
  pub none_after : list_any (is_of leaf) after ≡ false

-- the leaf, whose cube this is, has one section, and the derivation in it is accepted for the cube
pub record IsProved (clauses : List (List ℤ)) (sections : List Section) (leaf : ℕ) (cube : List ℤ) : Type 0 where
  pub section : Section
  pub only : IsOnlyOf sections leaf section
  pub accepted : IsAccepted clauses cube section.derivation

-- The certificate is accepted for these clauses, and this is how many leaves its tree has: no section is of another leaf, and each leaf
-- is proved.
pub record IsRechecked (clauses : List (List ℤ)) (certificate : Certificate) (count : ℕ) : Type 0 where
  pub counted : count ≡ leaves certificate.tree
  pub known : list_all (λ section. nat_lt section.leaf count) certificate.sections ≡ true
  pub proved : (leaf : ℕ) (cube : List ℤ) → slice_get (cubes_of certificate.tree) leaf ≡ Some cube → IsProved clauses certificate.sections leaf cube

-- what is wrong with a section after the sections before it: its leaf is not below the number of leaves, or an earlier
-- section is of the same leaf
abbrev pub section_fault : ℕ → List Section → Section → Option CertCause
section_fault count before section =
    if nat_le count section.leaf then Some Stranger
    else if list_any (is_of section.leaf) before then Some Double
    else None

-- the first section with which something is wrong is this leaf's
pub record IsFirstWrong (count : ℕ) (sections : List Section) (cause : CertCause) (leaf : ℕ) : Type 0 where
  pub place : ℕ
  pub fault : IsFirstFault (section_fault count) sections place cause
  pub leaf_is : leaf ≡ fault.item.leaf

-- each leaf below this number has a section
abbrev pub HaveSections : ℕ → List Section → Type 0
HaveSections count sections = (leaf : ℕ) → leaf < count → list_any (is_of leaf) sections ≡ true

-- the lowest leaf below `count` that has no section
pub record IsFirstMissing (count : ℕ) (sections : List Section) (leaf : ℕ) : Type 0 where
  pub within : leaf < count
  pub missing : list_any (is_of leaf) sections ≡ false
  pub lowest : HaveSections leaf sections

-- each leaf below this one is proved
abbrev pub AreProvedBelow : List (List ℤ) → List (List ℤ) → List Section → ℕ → Type 0
AreProvedBelow clauses cubes sections end = (leaf : ℕ) (cube : List ℤ) → leaf < end → slice_get cubes leaf ≡ Some cube → IsProved clauses sections leaf cube

-- the lowest leaf of these cubes whose section has a derivation that is refused
pub record IsFirstRefused (clauses cubes : List (List ℤ)) (sections : List Section) (leaf : ℕ) : Type 0 where
  pub cube : List ℤ
  pub section : Section
  pub fault : StepFault
  pub step : ℕ
  pub there : slice_get cubes leaf ≡ Some cube
  pub only : IsOnlyOf sections leaf section
  pub refused : IsRefused clauses cube section.derivation fault step
  pub lowest : AreProvedBelow clauses cubes sections leaf

-- whether the literals that the sections' steps add are clauses
abbrev pub are_sections_of_clauses : List Section → Bool
are_sections_of_clauses sections = list_all (λ section. are_steps section.derivation) sections

-- with each of the sections nothing is wrong
abbrev pub AreRight : ℕ → List Section → Type 0
AreRight count sections = IsFaultless (section_fault count) sections

-- The certificate is refused for this cause and this leaf. The sections are checked in their order; if nothing is wrong with them, the
-- leaves without a section; and where there is none, the derivations; both by rising leaf.
abbrev pub HasRecheckFault : List (List ℤ) → Certificate → CertCause → ℕ → Type 0
HasRecheckFault clauses certificate cause leaf =
    IsFirstWrong (leaves certificate.tree) certificate.sections cause leaf
    ⊎ (((cause ≡ Missing) × AreRight (leaves certificate.tree) certificate.sections × IsFirstMissing (leaves certificate.tree) certificate.sections leaf)
    ⊎ ((cause ≡ Derivation) × AreRight (leaves certificate.tree) certificate.sections × HaveSections (leaves certificate.tree) certificate.sections
    × IsFirstRefused clauses (cubes_of certificate.tree) certificate.sections leaf))

-- the first of the sections that is this leaf's
pub record IsFirstOf (sections : List Section) (leaf : ℕ) (section : Section) : Type 0 where
  pub before : List Section
  pub after : List Section
  pub parts : sections ≡ before ++ section ∷ after
  pub is : section.leaf ≡ leaf
  pub none_before : list_any (is_of leaf) before ≡ false
