-- The number, the name and the place of a fault, how it is printed, and when it comes. The numbers and the names of the
-- causes are parameters.
use Rattle.std.specs.Prelude.{◌≡◌, ⊤, ℕ, List, Option, Some, None, codes}
use Rattle.text_lines.specs.declared.fault.PlacedFault.{PlacedFault}
use Rattle.text_lines.specs.declared.fault.PlacedFault.TheVariants.{OutOfMemory, At}
use Rattle.text_lines.specs.Printed.{printed_at}

-- the number of a fault
abbrev pub fault_number : {C : Type 0} → (C → ℕ) → PlacedFault C → ℕ
fault_number number OutOfMemory = 1
fault_number number (At cause place) = number cause

-- the name of a fault
abbrev pub fault_name : {C : Type 0} → (C → List ℕ) → PlacedFault C → List ℕ
fault_name name OutOfMemory = codes "OutOfMemory"
fault_name name (At cause place) = name cause

-- the place of a fault, where it has one
abbrev pub fault_place : {C : Type 0} → PlacedFault C → Option ℕ
fault_place OutOfMemory = None
fault_place (At cause place) = Some place

-- a fault as it is printed, as `13 TooManyOps at 4099`
abbrev pub printed : {C : Type 0} → (C → ℕ) → (C → List ℕ) → PlacedFault C → List ℕ
printed number name fault = printed_at (fault_number number fault) (fault_name name fault) (fault_place fault)

-- A fault is true if this holds of its cause and its place. That memory ran out says nothing.
abbrev pub IsRefusal : {C : Type 0} → (C → ℕ → Type 0) → PlacedFault C → Type 0
IsRefusal HasFault OutOfMemory = ⊤
IsRefusal HasFault (At cause place) = HasFault cause place

-- the same, if this is the place in question
abbrev pub IsRefusalAt : {C : Type 0} → (C → Type 0) → ℕ → PlacedFault C → Type 0
IsRefusalAt IsCause here fault = IsRefusal (λ cause place. IsCause cause × (place ≡ here)) fault
