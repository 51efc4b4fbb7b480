-- The number and the name of a fault that has no place, how it is printed, and what it is at a place. The numbers and the names of the
-- causes are parameters.
use Rattle.std.specs.Prelude.{◌≡◌, ⊤, ℕ, List, Option, Some, None, codes}
use Rattle.text_lines.specs.declared.fault.PlacedFault.{PlacedFault}
use Rattle.text_lines.specs.declared.fault.PlacedFault.TheVariants.{OutOfMemory as NoMemory, At}
use Rattle.text_lines.specs.declared.plain_fault.PlainFault.{PlainFault}
use Rattle.text_lines.specs.declared.plain_fault.PlainFault.TheVariants.{OutOfMemory, For}
use Rattle.text_lines.specs.Printed.{printed_at}

-- the number of a fault
abbrev pub fault_number : {C : Type 0} → (C → ℕ) → PlainFault C → ℕ
fault_number number OutOfMemory = 1
fault_number number (For cause) = number cause

-- the name of a fault
abbrev pub fault_name : {C : Type 0} → (C → List ℕ) → PlainFault C → List ℕ
fault_name name OutOfMemory = codes "OutOfMemory"
fault_name name (For cause) = name cause

-- a fault as it is printed, as `2 Cut`
abbrev pub printed : {C : Type 0} → (C → ℕ) → (C → List ℕ) → PlainFault C → List ℕ
printed number name fault = printed_at (fault_number number fault) (fault_name name fault) None

-- the fault, where its cause is at this place
abbrev pub fault_at : {C : Type 0} → PlainFault C → ℕ → PlacedFault C
fault_at OutOfMemory place = NoMemory
fault_at (For cause) place = At cause place

-- A fault is true if this is the cause that there is. That memory ran out says nothing.
abbrev pub IsRefusedFor : {C : Type 0} → Option C → PlainFault C → Type 0
IsRefusedFor wrong OutOfMemory = ⊤
IsRefusedFor wrong (For cause) = wrong ≡ Some cause
