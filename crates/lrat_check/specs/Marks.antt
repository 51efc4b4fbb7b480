-- Marks of literals, by their places.
use Rattle.std.specs.Prelude.{ℕ, ◌+◌, ◌*◌, ℤ, nat_abs, Bool, false, List, slice_index_or, ◌||◌, if◌then◌else◌}
use Rattle.std.specs.BTreeSet.{contains}
use Rattle.std.specs.Int.{is_positive}
use Rattle.std.specs.Ordering.{nat_cmp}
use Rattle.lrat_check.specs.declared.marks.LiteralMarks.{LiteralMarks}

-- a place of its own for each literal
abbrev pub place_of : ℤ → ℕ
place_of z = 2 * nat_abs z + (if is_positive z then 0 else 1)

-- whether there is a mark at this place: past the end of the table there is none
abbrev pub marked_at : List Bool → ℕ → Bool
marked_at marks place = slice_index_or marks place false

-- whether there is a mark at this place, in the table or in the tree
abbrev pub is_marked : LiteralMarks → ℕ → Bool
is_marked marks place = marked_at marks.near.items place || contains nat_cmp marks.far place
