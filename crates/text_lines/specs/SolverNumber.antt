-- A solver number as the code keeps it.
use Rattle.std.specs.Prelude.{◌≡◌, ◌^◌, ℤ, nat_abs, Some, None, nat_lt, if◌then◌else◌}
use Rattle.std.specs.Int.{is_negative}
use Rattle.text_lines.specs.declared.numbers.SolverNumber.{SolverNumber}

-- its sign, and its absolute value where that is below 2^64
pub record IsNumber (z : ℤ) (n : SolverNumber) : Type 0 where
  pub sign : n.is_negative ≡ is_negative z
  pub absolute : n.magnitude ≡ (if nat_lt (nat_abs z) (2 ^ 64) then Some (nat_abs z) else None)
