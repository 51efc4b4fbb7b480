-- The first fault of a trace text.
use Rattle.std.specs.Prelude.{◌≡◌, ◌⊎◌, ◌+◌, ◌-◌, ◌^◌, ℕ, Bool, true, false, not, List, [], ◌∷◌, ◌++◌, length, map, Option, Some, None, is_none, ◌&&◌, ◌||◌, nat_le, nat_lt, if◌then◌else◌}
use Rattle.std.specs.Cmp.Lexicographic.{pointwise}
use Rattle.std.specs.List.{filter, filter_map, list_any, list_all}
use Rattle.std.specs.Str.{bytes_eq}
use Rattle.text_lines.specs.FirstFault.{IsFaultless, IsFirstFault}
use Rattle.text_lines.specs.Lines.{lines_of}
use Rattle.text_lines.specs.Numbers.{plain_number_up_to}
use Rattle.text_lines.specs.Words.{words_of}
use Rattle.trace_semantics.specs.Place.{place_of}
use Rattle.trace_text.specs.declared.trace_fault.TraceCause.{TraceCause}
use Rattle.trace_text.specs.declared.trace_fault.TraceCause.TheVariants.{NotAscii, Header, UnknownLine, BadName, BadNumber, InitTwice, FinalTwice, ProcTwice, OpOutsideProc, LateHeaderLine, TooManyProcs, TooManyOps, TooManyLocations, NoSuchOp, BeforeItself, TooManyBefore, EndsBeforeStart}
use Rattle.text_lines.specs.Kept.{kept, is_skipped}
use Rattle.trace_semantics.specs.declared.limits.Limits.{Limits}
use Rattle.trace_semantics.specs.Limits.{max_operations, max_locations, max_pairs, max_place}
use Rattle.trace_semantics.specs.Locations.{distinct, holds_name}
use Rattle.trace_semantics.specs.Names.{is_name}
use Rattle.trace_text.specs.Statement.{ReadsFrom, Unsaid, FromInit, FromOp, TimesSaid, Untimed, At, Statement, Init, Final, Proc, Read, Write, Update, Before, statement_of}
use Rattle.trace_text.specs.TraceText.{header_line}
use Rattle.trace_text.specs.declared.version.Version.{Version}
use Rattle.trace_text.specs.declared.version.Version.TheVariants.{One, Two, Three}
use Rattle.trace_text.specs.Version.{limits_of}

-- kinds of statements
abbrev pub is_proc : Statement → Bool
is_proc (Proc name) = true
is_proc s = false

abbrev pub is_value_line : Statement → Bool
is_value_line (Init location value) = true
is_value_line (Final location value) = true
is_value_line s = false

abbrev pub is_operation : Statement → Bool
is_operation (Read location value source times) = true
is_operation (Write location value times) = true
is_operation (Update location read left source times) = true
is_operation s = false

abbrev pub is_before : Statement → Bool
is_before (Before process place other other_place) = true
is_before s = false

-- an operation that is named, by its process and its place as they are written
abbrev pub references_of_source : ReadsFrom → List (List ℕ × List ℕ)
references_of_source Unsaid = []
references_of_source FromInit = []
references_of_source (FromOp process place) = (process, place) ∷ []

abbrev pub references_of : Statement → List (List ℕ × List ℕ)
references_of (Read location value source times) = references_of_source source
references_of (Update location read left source times) = references_of_source source
references_of (Before process place other other_place) = (process, place) ∷ (other, other_place) ∷ []
references_of s = []

-- the location that is named, if one is
abbrev pub location_named : Statement → Option (List ℕ)
location_named (Init location value) = Some location
location_named (Final location value) = Some location
location_named (Read location value source times) = Some location
location_named (Write location value times) = Some location
location_named (Update location read left source times) = Some location
location_named s = None

-- the times that are said, if some are
abbrev pub times_of : Statement → TimesSaid
times_of (Read location value source times) = times
times_of (Write location value times) = times
times_of (Update location read left source times) = times
times_of s = Untimed

-- the words that should be times
abbrev pub time_words : TimesSaid → List (List ℕ)
time_words Untimed = []
time_words (At start end) = start ∷ end ∷ []

-- the words that should be names, and those that should be values or times
abbrev pub own_names : Statement → List (List ℕ)
own_names (Proc name) = name ∷ []
own_names (Before process place other other_place) = []
own_names (Init location value) = location ∷ []
own_names (Final location value) = location ∷ []
own_names (Read location value source times) = location ∷ []
own_names (Write location value times) = location ∷ []
own_names (Update location read left source times) = location ∷ []

abbrev pub names_of : Statement → List (List ℕ)
names_of s = own_names s ++ map (λ (r : List ℕ × List ℕ). r.0) (references_of s)

abbrev pub values_of : Statement → List (List ℕ)
values_of (Init location value) = value ∷ []
values_of (Final location value) = value ∷ []
values_of (Proc name) = []
values_of (Read location value source times) = value ∷ time_words times
values_of (Write location value times) = value ∷ time_words times
values_of (Update location read left source times) = read ∷ left ∷ time_words times
values_of (Before process place other other_place) = []

-- a value, and a time, is a plain number below 2^64
abbrev pub is_value : List ℕ → Bool
is_value word = not (is_none (plain_number_up_to (2 ^ 64 - 1) word))

-- the first of two numbers is below the second
abbrev pub is_less : Option ℕ → Option ℕ → Bool
is_less (Some m) (Some n) = nat_lt m n
is_less m n = false

-- the end that is said is below the start
abbrev pub are_turned : TimesSaid → Bool
are_turned Untimed = false
are_turned (At start end) = is_less (plain_number_up_to (2 ^ 64 - 1) end) (plain_number_up_to (2 ^ 64 - 1) start)

-- a place that there is, and is no higher than these limits allow
abbrev pub is_within : Limits → Option ℕ → Bool
is_within limits None = false
is_within limits (Some place) = nat_le place (max_place limits)

abbrev pub is_place : Limits → List ℕ → Bool
is_place limits word = is_within limits (place_of word)

-- two statements of which a text may have only one
abbrev pub repeats : Statement → Statement → Bool
repeats (Init location value) (Init other other_value) = bytes_eq other location
repeats (Final location value) (Final other other_value) = bytes_eq other location
repeats (Proc name) (Proc other) = bytes_eq other name
repeats s t = false

-- the cause for the second one
abbrev pub twice_cause : Statement → TraceCause
twice_cause (Init location value) = InitTwice
twice_cause (Final location value) = FinalTwice
twice_cause s = ProcTwice

-- whether a statement passes a limit after these: of processes, of operations, of `before` lines
abbrev pub limit_fault : Limits → List Statement → Statement → Option TraceCause
limit_fault limits earlier s =
    if is_proc s && nat_le 64 (length (filter is_proc earlier)) then Some TooManyProcs
    else if is_operation s && nat_le (max_operations limits) (length (filter is_operation earlier)) then Some TooManyOps
    else if is_before s && nat_le (max_pairs limits) (length (filter is_before earlier)) then Some TooManyBefore
    else None

-- whether a statement names a location that these do not, and they name as many as may be named
abbrev pub is_location_too_many : Limits → List Statement → Option (List ℕ) → Bool
is_location_too_many limits earlier None = false
is_location_too_many limits earlier (Some location) =
    not (holds_name (filter_map location_named earlier) location) && nat_le (max_locations limits) (length (distinct (filter_map location_named earlier)))

-- the first of two faults
abbrev pub or_else : Option TraceCause → Option TraceCause → Option TraceCause
or_else None other = other
or_else (Some cause) other = Some cause

-- what is wrong with the place of a statement after these, and with its words
abbrev pub shape_fault : Limits → List Statement → Statement → Option TraceCause
shape_fault limits earlier s =
    if is_value_line s && list_any is_proc earlier then Some LateHeaderLine
    else if is_operation s && not (list_any is_proc earlier) then Some OpOutsideProc
    else if not (list_all is_name (names_of s)) then Some BadName
    else if not (list_all is_value (values_of s) && list_all (λ (r : List ℕ × List ℕ). is_place limits r.1) (references_of s)) then Some BadNumber
    else if are_turned (times_of s) then Some EndsBeforeStart
    else None

-- what is wrong with a statement after these
abbrev pub statement_fault : Limits → List Statement → Statement → Option TraceCause
statement_fault limits earlier s =
    or_else (shape_fault limits earlier s)
    (if list_any (repeats s) earlier then Some (twice_cause s)
    else or_else (limit_fault limits earlier s)
    (if is_location_too_many limits earlier (location_named s) then Some TooManyLocations else None))

abbrev pub said_fault : Limits → List Statement → Option Statement → Option TraceCause
said_fault limits earlier None = Some UnknownLine
said_fault limits earlier (Some s) = statement_fault limits earlier s

-- the words are those of a header
abbrev pub is_header : List (List ℕ) → Bool
is_header words = pointwise bytes_eq words (header_line One) || (pointwise bytes_eq words (header_line Two) || pointwise bytes_eq words (header_line Three))

-- the version of which they are the header
abbrev pub version_of : List (List ℕ) → Version
version_of words = if pointwise bytes_eq words (header_line Three) then Three else if pointwise bytes_eq words (header_line Two) then Two else One

-- what the lines after a header say
abbrev pub statements_of : Version → List (List (List ℕ)) → List Statement
statements_of version body = filter_map (statement_of version) body

-- what is wrong with the words of a line after those of the lines before it, of which the first is the header
abbrev pub words_fault : List (List (List ℕ)) → List (List ℕ) → Option TraceCause
words_fault [] words = if is_header words then None else Some Header
words_fault (header ∷ earlier) words = said_fault (limits_of (version_of header)) (statements_of (version_of header) earlier) (statement_of (version_of header) words)

-- a byte above 127
abbrev pub is_high : ℕ → Bool
is_high byte = nat_lt 127 byte

-- what is wrong with a line after the lines before it
abbrev pub trace_line_fault : List (List ℕ) → List ℕ → Option TraceCause
trace_line_fault before line =
    if is_skipped (words_of line) then None
    else if list_any is_high line then Some NotAscii
    else words_fault (kept before) (words_of line)

-- how many operations follow up to the next process
abbrev pub operations_up_to_proc : List Statement → ℕ
operations_up_to_proc [] = 0
operations_up_to_proc (Proc name ∷ ss) = 0
operations_up_to_proc (s ∷ ss) = if is_operation s then 1 + operations_up_to_proc ss else operations_up_to_proc ss

-- whether these statements have an operation at this place of this process
abbrev pub has_operation : List Statement → List ℕ → ℕ → Bool
has_operation [] process place = false
has_operation (Proc name ∷ ss) process place = (bytes_eq name process && nat_le place (operations_up_to_proc ss)) || has_operation ss process place
has_operation (s ∷ ss) process place = has_operation ss process place

-- the same of the place that a word writes, if it writes one
abbrev pub has_operation_at : List Statement → List ℕ → Option ℕ → Bool
has_operation_at ss process None = false
has_operation_at ss process (Some place) = has_operation ss process place

-- the operation that is named is one of these statements
abbrev pub is_known : List Statement → List ℕ × List ℕ → Bool
is_known all r = has_operation_at all r.0 (place_of r.1)

-- a `before` line of an operation and itself
abbrev pub is_before_itself : Statement → Bool
is_before_itself (Before process place other other_place) = bytes_eq process other && bytes_eq place other_place
is_before_itself s = false

-- what is wrong with the operations that a statement names, where these are all statements
abbrev pub reference_fault : List Statement → Option Statement → Option TraceCause
reference_fault all None = None
reference_fault all (Some s) =
    if not (list_all (is_known all) (references_of s)) then Some NoSuchOp
    else if is_before_itself s then Some BeforeItself
    else None

-- what is wrong with the operations that a line names, where these are all kept lines
abbrev pub line_reference_fault : List (List (List ℕ)) → List ℕ → Option TraceCause
line_reference_fault [] line = None
line_reference_fault (header ∷ body) line =
    if is_skipped (words_of line) then None
    else reference_fault (statements_of (version_of header) body) (statement_of (version_of header) (words_of line))

-- no line by itself has a fault
abbrev pub IsLineByLineFaultless : List ℕ → Type 0
IsLineByLineFaultless text = IsFaultless trace_line_fault (lines_of text)

-- no line has a fault, and none is the header
pub record LacksHeader (text : List ℕ) : Type 0 where
  pub faultless : IsLineByLineFaultless text
  pub empty : kept (lines_of text) ≡ []

-- no line by itself has a fault, and this is the first that names no operation of the trace, or puts one before itself
pub record HasReferenceFault (text : List ℕ) (cause : TraceCause) (line : ℕ) : Type 0 where
  pub faultless : IsLineByLineFaultless text
  pub found : IsFirstFault (λ _ here. line_reference_fault (kept (lines_of text)) here) (lines_of text) line cause

-- The text has its first fault at this line, counted from 1. A missing header is a fault of the line after the last.
-- The operations that lines name are checked only if no line has another fault.
abbrev pub HasTraceFault : List ℕ → TraceCause → ℕ → Type 0
HasTraceFault text cause line = IsFirstFault trace_line_fault (lines_of text) line cause
    ⊎ ((LacksHeader text × (cause ≡ Header) × (line ≡ length (lines_of text) + 1)) ⊎ HasReferenceFault text cause line)
