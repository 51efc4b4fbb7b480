-- The number and the name of the cause for which a trace is not reduced.
use Rattle.std.specs.Prelude.{ℕ, List, codes}
use Rattle.reducer.specs.declared.reduce_fault.ReduceCause.{ReduceCause}
use Rattle.reducer.specs.declared.reduce_fault.ReduceCause.TheVariants.{StillTooLarge}

-- the number of a cause
abbrev pub cause_number : ReduceCause → ℕ
cause_number StillTooLarge = 2

-- the name of a cause
abbrev pub cause_name : ReduceCause → List ℕ
cause_name StillTooLarge = codes "StillTooLarge"
