-- The numbers and the names of the causes for which a text is refused.
use Rattle.std.specs.Prelude.{ℕ, List, codes}
use Rattle.cnf_text.specs.declared.cnf_fault.CnfCause.{CnfCause}
use Rattle.cnf_text.specs.declared.cnf_fault.CnfCause.TheVariants.{NoHeader, BadHeader, BadNumber, VariableTooLarge, CountMismatch, Unended, Trailing}

-- the number of a cause
abbrev pub cause_number : CnfCause → ℕ
cause_number NoHeader = 2
cause_number BadHeader = 3
cause_number BadNumber = 4
cause_number VariableTooLarge = 5
cause_number CountMismatch = 6
cause_number Unended = 7
cause_number Trailing = 8

-- the name of a cause
abbrev pub cause_name : CnfCause → List ℕ
cause_name NoHeader = codes "NoHeader"
cause_name BadHeader = codes "BadHeader"
cause_name BadNumber = codes "BadNumber"
cause_name VariableTooLarge = codes "VariableTooLarge"
cause_name CountMismatch = codes "CountMismatch"
cause_name Unended = codes "Unended"
cause_name Trailing = codes "Trailing"
