-- The number and the name of the cause for which an assignment is not decoded.
use Rattle.std.specs.Prelude.{ℕ, List, codes}
use Rattle.schedule_decode.specs.declared.decode_fault.DecodeCause.{DecodeCause}
use Rattle.schedule_decode.specs.declared.decode_fault.DecodeCause.TheVariants.{NotAModel}

-- the number of a cause
abbrev pub cause_number : DecodeCause → ℕ
cause_number NotAModel = 2

-- the name of a cause
abbrev pub cause_name : DecodeCause → List ℕ
cause_name NotAModel = codes "NotAModel"
