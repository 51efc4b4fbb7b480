-- Merges: a list that can be parted into these lists, each in its own order.
use Rattle.std.specs.Prelude.{◌≡◌, ℕ, List, [], map, slice_index_or, ◌==◌}
use Rattle.std.specs.List.{filter}

-- an item, and which part it belongs to
pub record Marked (X : Type 0) : Type 0 where
  pub mark : ℕ
  pub item : X

-- the items of this part, in their order
abbrev pub marked : {X : Type 0} → ℕ → List (Marked X) → List X
marked {X} k log = map (λ (m : Marked X). m.item) (filter (λ (m : Marked X). m.mark == k) log)

-- all items, in their order
abbrev pub unmarked : {X : Type 0} → List (Marked X) → List X
unmarked {X} log = map (λ (m : Marked X). m.item) log

-- The list is some merge of the parts: each item can be marked with its part, so that those marked k are the k-th part, in its order.
-- There is no part after the last, so no item has another mark.
abbrev pub IsMergeOf : {X : Type 0} → List (List X) → List X → Type 0
IsMergeOf {X} parts xs = (log : List (Marked X)) × (xs ≡ unmarked log) × ((k : ℕ) → marked k log ≡ slice_index_or parts k [])
