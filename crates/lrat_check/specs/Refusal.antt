-- The numbers and the names of what may be wrong with a step.
use Rattle.std.specs.Prelude.{ℕ, List, codes}
use Rattle.lrat_check.specs.declared.refusal.StepFault.{StepFault}
use Rattle.lrat_check.specs.declared.refusal.StepFault.TheVariants.{UnknownHint, NotUnit, NoConflict, IdInUse, NoEmptyClause, NotOpposed, NoPivot, GroupMissing}

-- the number of a fault
abbrev pub fault_number : StepFault → ℕ
fault_number UnknownHint = 2
fault_number NotUnit = 3
fault_number NoConflict = 4
fault_number IdInUse = 5
fault_number NoEmptyClause = 6
fault_number NotOpposed = 7
fault_number NoPivot = 8
fault_number GroupMissing = 9

-- the name of a fault
abbrev pub fault_name : StepFault → List ℕ
fault_name UnknownHint = codes "UnknownHint"
fault_name NotUnit = codes "NotUnit"
fault_name NoConflict = codes "NoConflict"
fault_name IdInUse = codes "IdInUse"
fault_name NoEmptyClause = codes "NoEmptyClause"
fault_name NotOpposed = codes "NotOpposed"
fault_name NoPivot = codes "NoPivot"
fault_name GroupMissing = codes "GroupMissing"
