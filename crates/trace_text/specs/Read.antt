-- How far a trace text is read.
use Rattle.std.specs.Prelude.{◌≡◌, ◌≤◌, ◌+◌, ℕ, List, [], ◌∷◌, ◌++◌, length, map, Option, Some, None}
use Rattle.text_lines.specs.FirstFault.{IsFaultless}
use Rattle.text_lines.specs.Lines.{lines_of}
use Rattle.trace_text.specs.declared.trace_reader.TraceReader.{TraceReader}
use Rattle.text_lines.specs.Kept.{kept}
use Rattle.trace_text.specs.declared.version.Version.{Version}
use Rattle.trace_text.specs.Progress.{IsProgress}
use Rattle.trace_text.specs.Statement.{Statement, words_for, statement_of}
use Rattle.trace_text.specs.TraceFault.{trace_line_fault, statement_fault}
use Rattle.trace_text.specs.TraceText.{header_line}
use Rattle.trace_text.specs.Version.{limits_of}

-- the statement is what its words say
abbrev pub saying : Version → Statement → Option Statement
saying version s = statement_of version (words_for s)

-- these lines say these statements after their header
pub record AreSaid (version : Version) (lines : List (List ℕ)) (ss : List Statement) : Type 0 where
  pub kept_lines : kept lines ≡ header_line version ∷ map words_for ss
  pub said : map (saying version) ss ≡ map Some ss
  pub faultless : IsFaultless (statement_fault (limits_of version)) ss

-- a line is taken that says no more, or one more statement
pub record TakesLine (version : Version) (before : List (List ℕ)) (line : List ℕ) (new : TraceReader) : Type 0 where
  pub faultless : trace_line_fault before line ≡ None
  pub ss : List Statement
  pub said : AreSaid version (before ++ line ∷ []) ss
  pub progress : IsProgress (limits_of version) ss new

-- words are taken that say one more statement
pub record TakesWords (version : Version) (ss : List Statement) (words : List (List ℕ)) (new : TraceReader) : Type 0 where
  pub s : Statement
  pub says : statement_of version words ≡ Some s
  pub faultless : statement_fault (limits_of version) ss s ≡ None
  pub progress : IsProgress (limits_of version) (ss ++ s ∷ []) new

-- the lines up to the header are read, and `next` is the number of the line with which the rest begins
pub record HasHeader (text : List ℕ) (version : Version) (rest : List ℕ) (next : ℕ) : Type 0 where
  pub lines : List (List ℕ)
  pub counted : next ≡ length lines + 1
  pub parts : lines_of text ≡ lines ++ lines_of rest
  pub faultless : IsFaultless trace_line_fault lines
  pub header : kept lines ≡ header_line version ∷ []
  pub room : next + length rest ≤ length text + 1

-- the whole text is read
pub record IsAllRead (text : List ℕ) (version : Version) (reader : TraceReader) : Type 0 where
  pub ss : List Statement
  pub said : AreSaid version (lines_of text) ss
  pub faultless : IsFaultless trace_line_fault (lines_of text)
  pub progress : IsProgress (limits_of version) ss reader
