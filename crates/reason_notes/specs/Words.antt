-- What is said of the lines of a certificate of reasons.
use Rattle.std.specs.Prelude.{◌&&◌, ◌-◌, Bool, true, false, ℕ, zero, suc, List, [], ◌∷◌, ◌++◌, Option, Some, None, codes, decimal, length, take, ◌==◌, if◌then◌else◌}
use Rattle.std.specs.List.{filter, flat_map, list_any}
use Rattle.trace_semantics.specs.declared.operation.Op.{Op}
use Rattle.trace_semantics.specs.declared.trace.Process.{Process}
use Rattle.trace_semantics.specs.Judgement.{is_held}
use Rattle.trace_semantics.specs.Operation.{location_of, value_read}
use Rattle.trace_semantics.specs.Trace.{TraceValue, operation_at, value_of}
use Rattle.writer_table.specs.declared.operation_place.OperationPlace.{OperationPlace}
use Rattle.order_clauses.specs.Numbered.{named}
use Rattle.order_clauses.specs.declared.order_pair.OrderPair.{OrderPair}
use Rattle.reason_counting.specs.Tallies.{does_leave, does_want, does_write}
use Rattle.reason_text.specs.OperationWord.{operation_word}
use Rattle.reason_text.specs.declared.member_part.MemberPart.{MemberPart}
use Rattle.reason_text.specs.declared.member_part.MemberPart.TheVariants.{Reads, Waits, Ends, Piece}
use Rattle.reason_text.specs.declared.reason_line.ReasonLine.{ReasonLine}
use Rattle.reason_text.specs.declared.reason_line.ReasonLine.TheVariants.{Skipped, Cycle, Before, Ended, Variable, Source, Last, TooFew, Counting, Waiting, Derivation}
use Rattle.reason_text.specs.declared.source_piece.SourcePiece.{SourcePiece}
use Rattle.reason_text.specs.declared.source_piece.SourcePiece.TheVariants.{Hidden, Later, Initial, Others, Apart}
use Rattle.reason_notes.specs.declared.noted_line.NotedLine.{NotedLine}

-- ---- lists of which the first twelve are said

-- how many are not said, with words before and after the number, if there are such
abbrev pub more_text : List ℕ → List ℕ → ℕ → List ℕ
more_text lead tail zero = []
more_text lead tail (suc n) = lead ++ (decimal (suc n) ++ tail)

-- ---- orders

abbrev pub order_text : TraceValue → OrderPair → List ℕ
order_text t order = operation_word t order.first ++ (codes " before " ++ operation_word t order.second)

abbrev pub other_text : TraceValue → OrderPair → List ℕ
other_text t order = codes ", or " ++ order_text t order

-- the orders of a clause, of which one stands; a clause without orders is a contradiction
abbrev pub orders_text : TraceValue → List OrderPair → List ℕ
orders_text t [] = codes ": contradiction"
orders_text t (first ∷ others) =
    codes ": " ++ (order_text t first ++ (flat_map (other_text t) (take 12 others) ++ more_text (codes ", or ") (codes " more") (length others - 12)))

-- ---- what a line says of operations, pieces and members

-- what the operation reads, and where
abbrev pub value_text : List ℕ → Option ℕ → List ℕ
value_text location None = []
value_text location (Some value) = codes " reads " ++ (decimal value ++ (codes " at " ++ location))

abbrev pub read_words : Option Op → List ℕ
read_words None = []
read_words (Some op) = value_text (location_of op) (value_read op)

abbrev pub read_text : TraceValue → OperationPlace → List ℕ
read_text t n = operation_word t n ++ read_words (operation_at t (named t n))

abbrev pub hidden_text : TraceValue → OperationPlace → List ℕ
hidden_text t witness = codes ", which " ++ (operation_word t witness ++ codes " would hide")

-- from where the value may be, and what a piece says of that
abbrev pub piece_text : TraceValue → SourcePiece → List ℕ
piece_text t (Hidden witness bound) = codes ", from " ++ (operation_word t bound ++ (codes " or earlier in its process" ++ hidden_text t witness))
piece_text t (Later limit) = codes ", from " ++ (operation_word t limit ++ codes " or later in its process, before it")
piece_text t (Initial witness) = codes ", from the initial value" ++ hidden_text t witness
piece_text t (Others witness) = codes ", from any other" ++ hidden_text t witness
piece_text t (Apart operation) = codes ", from any other, and " ++ (operation_word t operation ++ codes " stands after that or before it")

abbrev pub pieces_text : TraceValue → List SourcePiece → List ℕ
pieces_text t pieces = flat_map (piece_text t) (take 12 pieces) ++ more_text (codes ", or ") (codes " more") (length pieces - 12)

-- whether the piece takes all sources that no other one does
abbrev pub is_main : SourcePiece → Bool
is_main (Hidden witness bound) = false
is_main (Later limit) = false
is_main (Initial witness) = false
is_main (Others witness) = true
is_main (Apart operation) = true

-- what is said of the sources that no piece takes
abbrev pub rest_text : List SourcePiece → List ℕ
rest_text [] = codes ", from an operation before it"
rest_text (piece ∷ pieces) = if list_any is_main (piece ∷ pieces) then [] else codes ", or from an operation before it"

-- what is said of last writers if there is no piece: none may be it
abbrev pub last_rest : List SourcePiece → List ℕ
last_rest [] = codes ", which no last write of a process leaves"
last_rest (piece ∷ pieces) = []

abbrev pub member_text : TraceValue → MemberPart → List ℕ
member_text t (Reads reader) = codes "; " ++ read_text t reader
member_text t (Waits pair) = codes "; " ++ (operation_word t pair.first ++ (codes ", which waits for " ++ operation_word t pair.second))
member_text t (Ends location) = codes "; the end of " ++ location.now
member_text t (Piece piece) = piece_text t piece

abbrev pub members_text : TraceValue → List MemberPart → List ℕ
members_text t parts = flat_map (member_text t) (take 12 parts) ++ more_text (codes "; and ") (codes " more") (length parts - 12)

-- ---- why the clause of a line holds

abbrev pub step_text : TraceValue → OperationPlace → List ℕ
step_text t n = operation_word t n ++ codes " before "

abbrev pub first_text : TraceValue → List OperationPlace → List ℕ
first_text t [] = []
first_text t (n ∷ others) = operation_word t n

abbrev pub cycle_text : TraceValue → List OperationPlace → List ℕ
cycle_text t operations =
    codes "no schedule has " ++ (flat_map (step_text t) (take 12 operations) ++ (more_text [] (codes " more before ") (length operations - 12) ++ first_text t operations))

abbrev pub end_text : List ℕ → Option ℕ → List ℕ
end_text location None = location ++ codes " has a last value"
end_text location (Some value) = codes "the final value of " ++ (location ++ (codes " is " ++ decimal value))

-- how many operations of the trace pass a test
abbrev pub count_of : (Op → Bool) → TraceValue → ℕ
count_of passes t = length (filter passes (flat_map (λ (p : Process). p.operations) t.processes))

abbrev pub ends_with : TraceValue → List ℕ → ℕ → Bool
ends_with t location value = is_held (value_of t.final_values location) value && list_any (does_write location) (flat_map (λ (p : Process). p.operations) t.processes)

-- a number of things, with the word for one or for several
abbrev pub counted_text : List ℕ → List ℕ → ℕ → List ℕ
counted_text one several count = decimal count ++ (if count == 1 then one else several)

abbrev pub text_if : Bool → List ℕ → List ℕ
text_if holds words = if holds then words else []

abbrev pub own_text : List ℕ → ℕ → List ℕ
own_text location value = codes " must have a " ++ (decimal value ++ (codes " of their own at " ++ location))

-- how many updates have to read the value at the location, and whether it ends with that
abbrev pub needs_text : List ℕ → ℕ → ℕ → Bool → List ℕ
needs_text location value wanting ends = counted_text (codes " update") (codes " updates") wanting ++ (text_if ends (codes " and the final value") ++ own_text location value)

-- how many operations leave it, and whether it is there at first
abbrev pub gives_text : ℕ → Bool → List ℕ
gives_text leaving starts =
    codes ", and only " ++ (counted_text (codes " operation") (codes " operations") leaving ++ (text_if starts (codes " and the initial value") ++ codes " can give one"))

-- that these need more than those give
abbrev pub too_few_text : TraceValue → List ℕ → ℕ → List ℕ
too_few_text t location value =
    needs_text location value (count_of (does_want location value) t) (ends_with t location value) ++ gives_text (count_of (does_leave location value) t) (is_held (value_of t.initial location) value)

-- members that are too many for the sources that no piece takes
abbrev pub counting_text : TraceValue → List MemberPart → List ℕ
counting_text t parts = codes "each of these must have a source of its own, and the sources that are left to them are too few" ++ members_text t parts

-- operations of which each waits for one of them
abbrev pub waiting_text : TraceValue → List MemberPart → List ℕ
waiting_text t parts = codes "one of these would have to come first" ++ members_text t parts

-- why one of the orders of a line's clause stands; nothing of a line that makes none
abbrev pub reason_text : TraceValue → ReasonLine → List ℕ
reason_text t (Cycle operations) = cycle_text t operations.items
reason_text t (Before pair) = codes "by a before line"
reason_text t (Ended pair) = codes "by their times"
reason_text t (Source reader pieces) = read_text t reader ++ (pieces_text t pieces.items ++ rest_text pieces.items)
reason_text t (Last location pieces) = end_text location.now (value_of t.final_values location.now) ++ (pieces_text t pieces.items ++ last_rest pieces.items)
reason_text t (TooFew location value) = too_few_text t location.now value
reason_text t (Counting parts) = counting_text t parts.items
reason_text t (Waiting parts) = waiting_text t parts.items
reason_text t Skipped = []
reason_text t (Variable pair) = []
reason_text t Derivation = []

-- the note of a line: why, and the orders of its clause
abbrev pub line_note : TraceValue → NotedLine → List ℕ
line_note t noted = codes "note: " ++ (reason_text t noted.line ++ (orders_text t noted.orders.items ++ codes "\n"))

-- the note on lines that are left out
abbrev pub left_note : ℕ → List ℕ
left_note left = more_text (codes "note: lines of the certificate that are left out here: ") (codes "\n") left
