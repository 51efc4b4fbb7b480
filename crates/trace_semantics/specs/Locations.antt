-- Lists of names without regard to how often each stands there.
use Rattle.std.specs.Prelude.{ℕ, Bool, List, [], ◌∷◌, if◌then◌else◌}
use Rattle.std.specs.List.{list_any}
use Rattle.std.specs.Str.{bytes_eq}

-- the name is among these
abbrev pub holds_name : List (List ℕ) → List ℕ → Bool
holds_name names name = list_any (λ other. bytes_eq other name) names

-- each of the names once
abbrev pub distinct : List (List ℕ) → List (List ℕ)
distinct [] = []
distinct (name ∷ names) = if holds_name names name then distinct names else name ∷ distinct names
