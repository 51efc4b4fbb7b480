-- The seats at a stop word.
use Rattle.std.specs.Prelude.{◌≡◌, List, [], map}
use Rattle.std.specs.List.{All}
use Rattle.atomic_table.specs.Seated.{TableId}
use Rattle.stop_word.specs.declared.views.View.{View}
use Rattle.stop_word.specs.WordRule.{nothing, parts_in}

-- a seat: which word it is at, and what it knows
pub record SeatValue : Type 0 where
  pub word : TableId
  pub knows : View

-- what these seats know
abbrev pub known_by : List SeatValue → List View
known_by seats = map (λ (s : SeatValue). s.knows) seats

-- a seat has marked nothing and been shown nothing
abbrev pub KnowsNothing : View → Type 0
KnowsNothing v = (v.marks ≡ []) × (v.least ≡ nothing)

-- the seats are at this word, and they are all its seats: together they have its eight parts
pub record AreAllSeats (word : TableId) (seats : List SeatValue) : Type 0 where
  pub at_word : All (λ (s : SeatValue). s.word ≡ word) seats
  pub all_parts : parts_in (known_by seats) ≡ 8
