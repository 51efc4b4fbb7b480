-- The clauses that steps have added, as they are stored.
use Rattle.std.specs.Prelude.{ℕ, ◌-◌, ℤ, List, Option, None, ◌==◌, nat_le, slice_index_or, if◌then◌else◌}
use Rattle.std.specs.Borrow.{Bor}
use Rattle.std.specs.Map.{lookup}
use Rattle.std.specs.Option.{option_map, option_or}
use Rattle.lrat_check.specs.declared.added_clauses.AddedClauses.{AddedClauses}

-- the clause in this row, if there is one: past the last row there is none
abbrev pub in_row : List (Option (Bor (List ℤ))) → ℕ → Option (List ℤ)
in_row rows place = option_map (λ clause. clause.now) (slice_index_or rows place None)

-- the clause in the row of this id, if there is one
abbrev pub row_at : AddedClauses → ℕ → Option (List ℤ)
row_at added id = if nat_le added.first id then in_row added.rows.items (id - added.first) else None

-- the clause of this id in the tree, if there is one
abbrev pub in_tree_at : AddedClauses → ℕ → Option (List ℤ)
in_tree_at added id = option_map (λ clause. clause.now) (lookup (λ other. id == other) added.in_tree.entries)

-- the clause of this id, if there is one
abbrev pub held_at : AddedClauses → ℕ → Option (List ℤ)
held_at added id = option_or (row_at added id) (in_tree_at added id)
