-- The number and the name of each cause for which no part is made.
use Rattle.std.specs.Prelude.{ℕ, List, codes}
use Rattle.trace_part.specs.declared.part_fault.PartCause.{PartCause}
use Rattle.trace_part.specs.declared.part_fault.PartCause.TheVariants.{UnknownOp, RepeatedOp}

-- the number of a cause
abbrev pub cause_number : PartCause → ℕ
cause_number UnknownOp = 2
cause_number RepeatedOp = 3

-- the name of a cause
abbrev pub cause_name : PartCause → List ℕ
cause_name UnknownOp = codes "UnknownOp"
cause_name RepeatedOp = codes "RepeatedOp"
