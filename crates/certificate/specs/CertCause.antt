-- The numbers and the names of what may be wrong with a certificate.
use Rattle.std.specs.Prelude.{ℕ, List, codes}
use Rattle.cube_tree.specs.declared.tree_fault.TreeCause.{TreeCause}
use Rattle.cube_tree.specs.declared.tree_fault.TreeCause.TheVariants as tree
use Rattle.certificate.specs.declared.cert_fault.CertCause.{CertCause}
use Rattle.certificate.specs.declared.cert_fault.CertCause.TheVariants.{Header, BadTree, TooDeep, TooManyLeaves, BadLine, BadLrat, Stranger, Double, Missing, Derivation}

-- the number of a cause
abbrev pub cause_number : CertCause → ℕ
cause_number Header = 2
cause_number BadTree = 3
cause_number TooDeep = 4
cause_number TooManyLeaves = 5
cause_number BadLine = 6
cause_number BadLrat = 7
cause_number Stranger = 8
cause_number Double = 9
cause_number Missing = 10
cause_number Derivation = 11

-- the name of a cause
abbrev pub cause_name : CertCause → List ℕ
cause_name Header = codes "Header"
cause_name BadTree = codes "BadTree"
cause_name TooDeep = codes "TooDeep"
cause_name TooManyLeaves = codes "TooManyLeaves"
cause_name BadLine = codes "BadLine"
cause_name BadLrat = codes "BadLrat"
cause_name Stranger = codes "Stranger"
cause_name Double = codes "Double"
cause_name Missing = codes "Missing"
cause_name Derivation = codes "Derivation"

-- what is wrong with the tree's text, as it is reported of the certificate
abbrev pub of_tree : TreeCause → CertCause
of_tree tree.BadLine = BadTree
of_tree tree.TooDeep = TooDeep
of_tree tree.TooManyLeaves = TooManyLeaves
