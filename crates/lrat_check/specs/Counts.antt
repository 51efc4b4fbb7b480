-- How often literals stand in the active clauses.
use Rattle.std.specs.Prelude.{◌≡◌, ℕ, ℤ, List, length, Option, ◌==◌, slice_index_or}
use Rattle.std.specs.List.{filter}
use Rattle.std.specs.Map.{lookup}
use Rattle.std.specs.Option.{option_map, unwrap_or}
use Rattle.std.specs.Ordering.{int_eq}
use Rattle.lrat_check.specs.Marks.{place_of}
use Rattle.lrat_check.specs.declared.literal_counts.LiteralCounts.{LiteralCounts}

-- how often the clause holds the literal
abbrev pub times : List ℤ → ℤ → ℕ
times clause literal = length (filter (λ z. int_eq z literal) clause)

-- how often the clause of this id does, if one is active
abbrev pub times_at : (ℕ → Option (List ℤ)) → ℤ → ℕ → ℕ
times_at active literal id = unwrap_or (option_map (λ clause. times clause literal) (active id)) 0

-- how often the id is among these
abbrev pub repeats : List ℕ → ℕ → ℕ
repeats ids id = length (filter (λ other. other == id) ids)

-- The number of times that the literal stands in the active clauses: the number of ids, if each is listed as often as its
-- clause holds the literal.
abbrev pub IsCount : (ℕ → Option (List ℤ)) → ℤ → ℕ → Type 0
IsCount active literal count = (ids : List ℕ) × ((id : ℕ) → repeats ids id ≡ times_at active literal id) × (length ids ≡ count)

-- the count at a place in the tree: 0 if none stands there
abbrev pub far_count : LiteralCounts → ℕ → ℕ
far_count counts place = unwrap_or (lookup (λ other. place == other) counts.far.entries) 0

-- the count at a place: past the end of the table it stands in the tree
abbrev pub count_at : LiteralCounts → ℕ → ℕ
count_at counts place = slice_index_or counts.near.items place (far_count counts place)

-- the count of a literal
abbrev pub literal_count : LiteralCounts → ℤ → ℕ
literal_count counts literal = count_at counts (place_of literal)

-- the counts are those of each literal in the active clauses
abbrev pub AreLiteralCounts : (ℕ → Option (List ℤ)) → LiteralCounts → Type 0
AreLiteralCounts active counts = (literal : ℤ) → IsCount active literal (literal_count counts literal)
