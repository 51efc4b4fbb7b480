-- How far a piece was passed.
use Rattle.std.specs.Prelude.{◌≡◌, ◌⊎◌, ◌+◌, ◌≤◌, ℕ, Bool, true, false, List, [], ◌∷◌, ◌++◌, length}
use Rattle.std.specs.List.{list_any}
use Rattle.text_lines.specs.Lines.{lines_of, is_line_feed}
use Rattle.trace_pieces.specs.Pieces.{IsCut, hold_one, says}

-- the first line of a text, without its line feed, and what follows it
pub record IsFirstLine (text line after : List ℕ) : Type 0 where
  pub no_feed : list_any is_line_feed line ≡ false
  pub parts : (text ≡ line ++ 10 ∷ after) ⊎ ((text ≡ line) × (after ≡ []))

-- lines may follow these bytes: none of them is a part of a line of theirs
abbrev pub AreWhole : List ℕ → Type 0
AreWhole front = (more : List ℕ) → lines_of (front ++ more) ≡ lines_of front ++ lines_of more

-- the text is these bytes, which may be those of a piece, and then the rest
pub record IsPassed (text front rest : List ℕ) (count : ℕ) (said : Bool) : Type 0 where
  pub parts : text ≡ front ++ rest
  pub whole : (rest ≡ []) ⊎ AreWhole front
  pub counted : count ≡ length (lines_of front)
  pub said_is : said ≡ list_any says (lines_of front)
  pub one : hold_one (lines_of front) ≡ true

-- this rest follows the first piece of the text, which has this number of lines
pub record CutOff (text rest : List ℕ) (count : ℕ) : Type 0 where
  pub piece : List ℕ
  pub cut : IsCut text piece rest
  pub counted : count ≡ length (lines_of piece)
  pub whole : (rest ≡ []) ⊎ AreWhole piece
  pub few : count + length rest ≤ length text

-- the first line of the text ends with a line feed
pub record HasWholeLine (text : List ℕ) : Type 0 where
  pub line : List ℕ
  pub after : List ℕ
  pub no_feed : list_any is_line_feed line ≡ false
  pub parts : text ≡ line ++ 10 ∷ after
