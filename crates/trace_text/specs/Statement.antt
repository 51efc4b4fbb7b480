-- What a line of a trace text says, its names and numbers as they are written.
use Rattle.std.specs.Prelude.{ℕ, ◌-◌, nat_le, Bool, true, List, [], ◌∷◌, ◌++◌, length, take, ◌&&◌, Option, Some, None, codes, slice_index_or, if◌then◌else◌}
use Rattle.std.specs.Option.{option_and_then}
use Rattle.std.specs.Str.{bytes_eq}
use Rattle.trace_text.specs.declared.version.Version.{Version}
use Rattle.trace_text.specs.Version.{has_version_2_lines, has_times}

-- where a value is said to come from
pub data ReadsFrom : Type 0 where
  Unsaid : ReadsFrom
  FromInit : ReadsFrom
  FromOp : (process place : List ℕ) → ReadsFrom

-- when an operation is said to have been under way
pub data TimesSaid : Type 0 where
  Untimed : TimesSaid
  At : (start end : List ℕ) → TimesSaid

pub data Statement : Type 0 where
  -- an initial value, and a final value
  Init : (location value : List ℕ) → Statement
  Final : (location value : List ℕ) → Statement
  -- begins a process
  Proc : (name : List ℕ) → Statement
  -- a plain read, a write, and a read-and-write
  Read : (location value : List ℕ) (source : ReadsFrom) (times : TimesSaid) → Statement
  Write : (location value : List ℕ) (times : TimesSaid) → Statement
  Update : (location read left : List ℕ) (source : ReadsFrom) (times : TimesSaid) → Statement
  -- the first operation stands before the second
  Before : (process place other other_place : List ℕ) → Statement

-- the words that say where a value comes from
abbrev pub source_words : ReadsFrom → List (List ℕ)
source_words Unsaid = []
source_words FromInit = codes "from" ∷ codes "init" ∷ []
source_words (FromOp process place) = codes "from" ∷ process ∷ place ∷ []

-- the words that say when an operation was under way
abbrev pub times_words : TimesSaid → List (List ℕ)
times_words Untimed = []
times_words (At start end) = codes "at" ∷ start ∷ end ∷ []

-- the words of a line that says it
abbrev pub words_for : Statement → List (List ℕ)
words_for (Init location value) = codes "init" ∷ location ∷ value ∷ []
words_for (Final location value) = codes "final" ∷ location ∷ value ∷ []
words_for (Proc name) = codes "proc" ∷ name ∷ []
words_for (Read location value source times) = codes "R" ∷ location ∷ value ∷ (source_words source ++ times_words times)
words_for (Write location value times) = codes "W" ∷ location ∷ value ∷ times_words times
words_for (Update location read left source times) = codes "U" ∷ location ∷ read ∷ left ∷ (source_words source ++ times_words times)
words_for (Before process place other other_place) = codes "before" ∷ process ∷ place ∷ other ∷ other_place ∷ []

-- What the words of a line say without times, if they are of a form that there is in version 1, or, where `two` says so, in versions 2 and 3.
abbrev pub untimed_statement : Bool → List (List ℕ) → Option Statement
untimed_statement two (key ∷ name ∷ []) = if bytes_eq key (codes "proc") then Some (Proc name) else None
untimed_statement two (key ∷ location ∷ value ∷ []) =
    if bytes_eq key (codes "init") then Some (Init location value)
    else if bytes_eq key (codes "final") then Some (Final location value)
    else if bytes_eq key (codes "R") then Some (Read location value Unsaid Untimed)
    else if bytes_eq key (codes "W") then Some (Write location value Untimed)
    else None
untimed_statement two (key ∷ location ∷ read ∷ left ∷ []) = if bytes_eq key (codes "U") then Some (Update location read left Unsaid Untimed) else None
untimed_statement two (key ∷ a ∷ b ∷ c ∷ d ∷ []) =
    if two && bytes_eq key (codes "R") && bytes_eq c (codes "from") && bytes_eq d (codes "init") then Some (Read a b FromInit Untimed)
    else if two && bytes_eq key (codes "before") then Some (Before a b c d)
    else None
untimed_statement two (key ∷ a ∷ b ∷ c ∷ d ∷ e ∷ []) =
    if two && bytes_eq key (codes "R") && bytes_eq c (codes "from") then Some (Read a b (FromOp d e) Untimed)
    else if two && bytes_eq key (codes "U") && bytes_eq d (codes "from") && bytes_eq e (codes "init") then Some (Update a b c FromInit Untimed)
    else None
untimed_statement two (key ∷ a ∷ b ∷ c ∷ d ∷ e ∷ f ∷ []) =
    if two && bytes_eq key (codes "U") && bytes_eq d (codes "from") then Some (Update a b c (FromOp e f) Untimed) else None
untimed_statement two words = None

-- an operation that says no times, with these
abbrev pub with_times : Statement → List ℕ → List ℕ → Option Statement
with_times (Read location value source Untimed) start end = Some (Read location value source (At start end))
with_times (Write location value Untimed) start end = Some (Write location value (At start end))
with_times (Update location read left source Untimed) start end = Some (Update location read left source (At start end))
with_times s start end = None

-- what the words of a line say that are an operation and `at START END` after it
abbrev pub timed_statement : List (List ℕ) → Option Statement
timed_statement words =
    if nat_le 3 (length words) && bytes_eq (slice_index_or words (length words - 3) []) (codes "at")
    then option_and_then (λ s. with_times s (slice_index_or words (length words - 2) []) (slice_index_or words (length words - 1) [])) (untimed_statement true (take (length words - 3) words))
    else None

-- the first that there is of two
abbrev pub first_said : Option Statement → Option Statement → Option Statement
first_said None other = other
first_said (Some s) other = Some s

-- what the words of a line say, if they are of a form that the version has
abbrev pub statement_of : Version → List (List ℕ) → Option Statement
statement_of version words = first_said (untimed_statement (has_version_2_lines version) words) (if has_times version then timed_statement words else None)
