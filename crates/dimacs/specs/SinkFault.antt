-- The faults of a sink, as they are counted and printed.
use Rattle.std.specs.Prelude.{ℕ, List, ◌∷◌, ◌++◌, codes}
use Rattle.std.specs.Fmt.{decimal}
use Rattle.dimacs.specs.declared.sink_fault.SinkFault.{SinkFault}
use Rattle.dimacs.specs.declared.sink_fault.SinkFault.TheVariants.{OutOfMemory, Device}

-- the number of a fault
abbrev pub number_of : SinkFault → ℕ
number_of OutOfMemory = 1
number_of Device = 2

-- the name of a fault, in ASCII
abbrev pub name_of : SinkFault → List ℕ
name_of OutOfMemory = codes "OutOfMemory"
name_of Device = codes "Device"

-- a fault as it is printed: its number, a blank and its name
abbrev pub line_of : SinkFault → List ℕ
line_of fault = decimal (number_of fault) ++ 32 ∷ name_of fault

-- how many failures of the sink a fault stands for
abbrev pub failures_told : SinkFault → ℕ
failures_told OutOfMemory = 0
failures_told Device = 1
