-- The hints of an addition: ids of clauses, and groups, each of which begins with the negative of an id.
use Rattle.std.specs.Prelude.{ℕ, suc, ℤ, pos, negsuc, Bool, List, [], ◌∷◌, ◌==◌}
use Rattle.std.specs.List.{list_any}

-- the ids before the first group
abbrev pub first_hints : List ℤ → List ℕ
first_hints [] = []
first_hints (pos id ∷ hints) = id ∷ first_hints hints
first_hints (negsuc n ∷ hints) = []

-- the id of a clause that holds the pivot's negation, and the hints for it
pub record Group : Type 0 where
  pub id : ℕ
  pub hints : List ℕ

abbrev pub groups_of : List ℤ → List Group
groups_of [] = []
groups_of (pos id ∷ hints) = groups_of hints
groups_of (negsuc n ∷ hints) = record { id = suc n; hints = first_hints hints } ∷ groups_of hints

-- whether one of the groups is of this id
abbrev pub has_group : List Group → ℕ → Bool
has_group groups id = list_any (λ group. group.id == id) groups
