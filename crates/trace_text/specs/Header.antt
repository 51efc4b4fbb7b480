-- The line of a header.
use Rattle.std.specs.Prelude.{◌≡◌, ℕ, false, List, Option, Some, None, if◌then◌else◌}
use Rattle.std.specs.List.{list_any}
use Rattle.text_lines.specs.Words.{words_of}
use Rattle.trace_text.specs.declared.version.Version.{Version}
use Rattle.trace_text.specs.declared.trace_fault.TraceCause.{TraceCause}
use Rattle.trace_text.specs.declared.trace_fault.TraceCause.TheVariants.{NotAscii, Header}
use Rattle.text_lines.specs.Kept.{is_skipped}
use Rattle.trace_text.specs.TraceFault.{is_header, is_high}
use Rattle.trace_text.specs.TraceText.{header_line}

-- what is wrong with a line where the header is due
abbrev pub header_fault : List ℕ → Option TraceCause
header_fault line =
    if is_skipped (words_of line) then None
    else if list_any is_high line then Some NotAscii
    else if is_header (words_of line) then None else Some Header

-- the line is the header of this version
pub record IsHeaderLine (line : List ℕ) (version : Version) : Type 0 where
  pub words : words_of line ≡ header_line version
  pub low : list_any is_high line ≡ false
