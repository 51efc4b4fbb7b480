-- Which lines of a certificate of reasons are noted, and that they are so.
use Rattle.std.specs.Prelude.{◌≡◌, ◌≢◌, ◌≤◌, ◌⊎◌, ◌↔◌, ◌-◌, Bool, true, not, ℕ, List, [], ◌∷◌, ◌++◌, map, length, codes}
use Rattle.std.specs.List.{AllZip, Contains, filter, flat_map}
use Rattle.text_lines.specs.Lines.{lines_of}
use Rattle.text_lines.specs.Words.{words_of}
use Rattle.trace_semantics.specs.declared.operation.OpName.{OpName}
use Rattle.trace_semantics.specs.Trace.{TraceValue}
use Rattle.order_clauses.specs.Numbered.{named_orders}
use Rattle.reason_text.specs.Header.{is_header}
use Rattle.reason_text.specs.ReasonLine.{IsReasonLine}
use Rattle.reason_text.specs.declared.reason_line.ReasonLine.{ReasonLine}
use Rattle.reason_text.specs.declared.reason_line.ReasonLine.TheVariants.{Derivation as DerivationLine}
use Rattle.reason_check.specs.Accepted.{IsAcceptedReasons}
use Rattle.reason_check.specs.LineClauses.{IsClauseOfLine, is_silent}
use Rattle.reason_notes.specs.declared.first_lines.LinesWanted.{LinesWanted}
use Rattle.reason_notes.specs.declared.first_lines.LinesWanted.TheVariants.{More, Ended}
use Rattle.reason_notes.specs.declared.line_orders.LineOrders.{LineOrders}
use Rattle.reason_notes.specs.declared.line_orders.LineOrders.TheVariants.{Silent, Made, Derivation}
use Rattle.reason_notes.specs.declared.noted_line.LineNote.{LineNote}
use Rattle.reason_notes.specs.declared.noted_line.LineNote.TheVariants.{Passed, Noted, End}
use Rattle.reason_notes.specs.declared.noted_line.NotedLine.{NotedLine}
use Rattle.reason_notes.specs.Words.{left_note, line_note}

-- the line is noted with the orders of a clause that follows from the trace by it: one of them stands in each legal schedule
abbrev pub IsNotedOf : TraceValue → ReasonLine → NotedLine → Type 0
IsNotedOf t line noted = (noted.line ≡ line) × IsClauseOfLine t line (named_orders t noted.orders.items)

abbrev pub speaks : ReasonLine → Bool
speaks line = not (is_silent line)

-- each that is noted leaves an order
abbrev pub NoneRefutes : List NotedLine → Type 0
NoneRefutes noted = (line : NotedLine) → Contains noted line → line.orders.items ≢ []

-- the last that is noted is the first that leaves no order: it says that there is no legal schedule
abbrev pub EndsRefuted : List NotedLine → Type 0
EndsRefuted noted = (others : List NotedLine) × (last : NotedLine) × (noted ≡ others ++ last ∷ []) × (last.orders.items ≡ []) × NoneRefutes others

-- no line follows, or the first that does is `p`
abbrev pub EndsLines : List (List ℕ) → Type 0
EndsLines rest = (rest ≡ []) ⊎ ((mark : List ℕ) × (behind : List (List ℕ)) × (rest ≡ mark ∷ behind) × (words_of mark ≡ codes "p" ∷ []))

-- Of the lines after the header of a text some at the front are read. Those of them that are neither comments nor number a pair are noted, each
-- with the orders of a clause that follows by it, in their order, and no more than the most. The last one that is noted is the first without an
-- order; or none is without one, and as many are noted as may be, or behind the lines that are read the text ends or `p` stands.
pub record AreFirstLines (t : TraceValue) (text : List ℕ) (most : ℕ) (noted : List NotedLine) : Type 0 where
  pub header : List ℕ
  pub front : List (List ℕ)
  pub rest : List (List ℕ)
  pub parts : lines_of text ≡ header ∷ (front ++ rest)
  pub headed : is_header (words_of header) ≡ true
  pub lines : List ReasonLine
  pub read : AllZip (IsReasonLine t) (map words_of front) lines
  pub notes_are : AllZip (IsNotedOf t) (filter speaks lines) noted
  pub few : length noted ≤ most
  pub ended : EndsRefuted noted ⊎ (NoneRefutes noted × ((length noted ≡ most) ⊎ EndsLines rest))

-- The text is a certificate that is accepted of the trace, so that this has no legal schedule, and the words are the notes of its first lines, 40
-- at most, and of how many others there are.
pub record IsNotedCertificate (t : TraceValue) (text words : List ℕ) : Type 0 where
  pub count : ℕ
  pub accepted : IsAcceptedReasons t text count
  pub noted : List NotedLine
  pub first : AreFirstLines t text 40 noted
  pub said : words ≡ flat_map (line_note t) noted ++ left_note (count - length noted)

-- ---- what comes of a line

-- the orders are a clause of this kind
abbrev pub AreMadeFor : TraceValue → (List (OpName × OpName) → Type 0) → LineOrders → Type 0
AreMadeFor t Is Silent = ⊥
AreMadeFor t Is (Made orders) = Is (named_orders t orders.items)
AreMadeFor t Is Derivation = ⊥

abbrev pub AreOrdersOf : TraceValue → ReasonLine → LineOrders → Type 0
AreOrdersOf t line Silent = is_silent line ≡ true
AreOrdersOf t line (Made orders) = IsClauseOfLine t line (named_orders t orders.items)
AreOrdersOf t line Derivation = line ≡ DerivationLine

abbrev pub IsNotedAs : TraceValue → ReasonLine → LineNote → Type 0
IsNotedAs t line Passed = is_silent line ≡ true
IsNotedAs t line (Noted noted) = IsNotedOf t line noted
IsNotedAs t line End = line ≡ DerivationLine

-- the line with these words was read, and this came of it
pub record IsLineNote (t : TraceValue) (words : List (List ℕ)) (outcome : LineNote) : Type 0 where
  pub line : ReasonLine
  pub read : IsReasonLine t words line
  pub noted : IsNotedAs t line outcome

-- What comes into the list of lines that are noted, and whether more are wanted: always behind a line that makes no clause; behind one that is
-- noted exactly if it leaves an order; and never behind `p`.
abbrev pub IsAdded : List NotedLine → List NotedLine → LineNote → LinesWanted → Type 0
IsAdded old new Passed reading = (new ≡ old) × (reading ≡ More)
IsAdded old new (Noted next) reading = (new ≡ old ++ next ∷ []) × ((reading ≡ Ended) ↔ (next.orders.items ≡ []))
IsAdded old new End reading = (new ≡ old) × (reading ≡ Ended)
