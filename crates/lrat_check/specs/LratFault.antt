-- The numbers and the names of the causes for which a derivation's text is refused.
use Rattle.std.specs.Prelude.{ℕ, List, codes}
use Rattle.lrat_check.specs.declared.lrat_fault.LratCause.{LratCause}
use Rattle.lrat_check.specs.declared.lrat_fault.LratCause.TheVariants.{BadLine, BadNumber, Unended}

-- the number of a cause
abbrev pub cause_number : LratCause → ℕ
cause_number BadLine = 2
cause_number BadNumber = 3
cause_number Unended = 4

-- the name of a cause
abbrev pub cause_name : LratCause → List ℕ
cause_name BadLine = codes "BadLine"
cause_name BadNumber = codes "BadNumber"
cause_name Unended = codes "Unended"
