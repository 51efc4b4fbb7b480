-- How far the places in rows can still rise.
use Rattle.std.specs.Prelude.{◌-◌, ℕ, List}
use Rattle.std.specs.List.{sum_by}
use Rattle.forced_order.specs.Rows.{OrderValue}

-- a place has 32 bits
abbrev pub place_room : ℕ → ℕ
place_room place = 4294967295 - place

abbrev pub row_room : List ℕ → ℕ
row_room row = sum_by place_room row

abbrev pub process_room : List (List ℕ) → ℕ
process_room rows = sum_by row_room rows

-- the room of all places together
abbrev pub room : OrderValue → ℕ
room order = sum_by process_room order
