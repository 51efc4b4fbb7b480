-- The numbers and the names of the causes for which a text is refused.
use Rattle.std.specs.Prelude.{ℕ, List, codes}
use Rattle.model_text.specs.declared.model_fault.ModelCause.{ModelCause}
use Rattle.model_text.specs.declared.model_fault.ModelCause.TheVariants.{SaysUnsatisfiable, BadLine, BadNumber, Clash, Unended}

-- the number of a cause
abbrev pub cause_number : ModelCause → ℕ
cause_number SaysUnsatisfiable = 2
cause_number BadLine = 3
cause_number BadNumber = 4
cause_number Clash = 5
cause_number Unended = 6

-- the name of a cause
abbrev pub cause_name : ModelCause → List ℕ
cause_name SaysUnsatisfiable = codes "SaysUnsatisfiable"
cause_name BadLine = codes "BadLine"
cause_name BadNumber = codes "BadNumber"
cause_name Clash = codes "Clash"
cause_name Unended = codes "Unended"
