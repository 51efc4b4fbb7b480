-- The last of some operations that writes a location.
use Rattle.std.specs.Prelude.{◌≡◌, ℕ, List, ◌∷◌, ◌++◌, Some, None}
use Rattle.std.specs.List.{Contains}
use Rattle.trace_semantics.specs.declared.operation.OpName.{OpName}
use Rattle.trace_semantics.specs.Trace.{TraceValue}
use Rattle.trace_semantics.specs.ValueAfter.{value_left_at}

-- none of the names writes the location
abbrev pub AreSilent : TraceValue → List ℕ → List OpName → Type 0
AreSilent t location names = (n : OpName) → Contains names n → value_left_at t location n ≡ None

-- w is the last that writes the location, and leaves d there
pub record IsLast (t : TraceValue) (location : List ℕ) (names : List OpName) (w : OpName) (d : ℕ) : Type 0 where
  pub front : List OpName
  pub back : List OpName
  pub parts : names ≡ front ++ w ∷ back
  pub leaves : value_left_at t location w ≡ Some d
  pub silent : AreSilent t location back
