-- The first fault of a list: what is wrong with an item is said after the plain list of the items before it, as `fault before item`.
use Rattle.std.specs.Prelude.{◌≡◌, ℕ, ◌+◌, List, ◌∷◌, ◌++◌, length, Option, Some, None}

-- no item has a fault
abbrev pub IsFaultless : {A F : Type 0} → (List A → A → Option F) → List A → Type 0
IsFaultless {A} fault items = (before : List A) (item : A) (after : List A) → items ≡ before ++ item ∷ after → fault before item ≡ None

-- the item at this place, counted from 1, has this fault, and no item before it has any
pub record IsFirstFault {A F : Type 0} (fault : List A → A → Option F) (items : List A) (place : ℕ) (found : F) : Type 0 where
  pub before : List A
  pub item : A
  pub after : List A
  pub parts : items ≡ before ++ item ∷ after
  pub counted : place ≡ length before + 1
  pub faulty : fault before item ≡ Some found
  pub first : IsFaultless fault before
