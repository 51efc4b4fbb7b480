-- The ids under which a clause was active at the start and is so no more, as they are stored.
use Rattle.std.specs.Prelude.{ℕ, ℤ, Bool, List, Option, None, nat_le, slice_index_or, if◌then◌else◌}
use Rattle.std.specs.BTreeSet.{contains}
use Rattle.std.specs.Ordering.{nat_cmp}
use Rattle.lrat_check.specs.Marks.{marked_at}
use Rattle.lrat_check.specs.declared.hidden_ids.HiddenIds.{HiddenIds}

-- whether the id is hidden: past the end of the table it stands in the tree
abbrev pub is_hidden : HiddenIds → ℕ → Bool
is_hidden hidden id = slice_index_or hidden.near.items id (contains nat_cmp hidden.far id)

-- of these clauses those that are not hidden, and those whose ids are still to be looked at
abbrev pub passed_by : (ℕ → Option (List ℤ)) → (ℕ → Bool) → (ℕ → Bool) → ℕ → Option (List ℤ)
passed_by start hidden left id = if left id then start id else if hidden id then None else start id

-- of these clauses those that the table does not hide
abbrev pub kept_by_table : HiddenIds → (ℕ → Option (List ℤ)) → ℕ → Option (List ℤ)
kept_by_table hidden start id = if marked_at hidden.near.items id then None else start id

-- the same, as long as the ids from this one on are still to be looked at: their clauses are kept
abbrev pub kept_by_table_from : HiddenIds → (ℕ → Option (List ℤ)) → ℕ → ℕ → Option (List ℤ)
kept_by_table_from hidden start next = passed_by start (marked_at hidden.near.items) (nat_le next)

-- of those that the table does not hide the ones that the tree does not hide either, as long as these ids of the tree are still to be
-- looked at
abbrev pub kept_by_tree : HiddenIds → (ℕ → Option (List ℤ)) → (ℕ → Bool) → ℕ → Option (List ℤ)
kept_by_tree hidden start left = passed_by (kept_by_table hidden start) (is_hidden hidden) left
