-- What a clause says of the bytes that a sink has taken.
use Rattle.std.specs.Prelude.{◌≡◌, ℕ, List, ◌++◌}

-- the new list is the old one and then a prefix of the bytes: none, some or all of them
pub record AppendsFront (old new bytes : List ℕ) : Type 0 where
  pub front : List ℕ
  pub back : List ℕ
  pub parts : front ++ back ≡ bytes
  pub appended : new ≡ old ++ front

-- the new list is the old one and then a prefix of the bytes, and the rest of them is still kept
pub record IsSent (old new kept bytes : List ℕ) : Type 0 where
  pub front : List ℕ
  pub parts : front ++ kept ≡ bytes
  pub appended : new ≡ old ++ front
