-- The operations that lines name.
use Rattle.std.specs.Prelude.{ℕ, Bool, false, not, ◌&&◌, List, length, Option, Some, None, nat_le, if◌then◌else◌}
use Rattle.std.specs.List.{list_any, list_all}
use Rattle.std.specs.Str.{bytes_eq}
use Rattle.text_lines.specs.FirstFault.{IsFirstFault}
use Rattle.text_lines.specs.Lines.{lines_of}
use Rattle.text_lines.specs.Words.{words_of}
use Rattle.trace_semantics.specs.declared.trace.Process.{Process}
use Rattle.trace_text.specs.declared.trace_fault.TraceCause.{TraceCause}
use Rattle.trace_text.specs.declared.trace_fault.TraceCause.TheVariants.{NoSuchOp, BeforeItself}
use Rattle.text_lines.specs.Fault.{IsRefusal}
use Rattle.text_lines.specs.declared.fault.PlacedFault.{PlacedFault}
use Rattle.text_lines.specs.Kept.{is_skipped}
use Rattle.trace_text.specs.declared.version.Version.{Version}
use Rattle.trace_text.specs.Statement.{Statement, statement_of}
use Rattle.trace_semantics.specs.Place.{place_of}
use Rattle.trace_text.specs.TraceFault.{references_of, is_before_itself}

-- this process has this name, and an operation at this place
abbrev pub is_of : List ℕ → ℕ → Process → Bool
is_of name place p = bytes_eq p.name name && nat_le place (length p.operations)

-- one of these processes has this name and an operation at the place that a word writes, if it writes one
abbrev pub some_is_of : List Process → List ℕ → Option ℕ → Bool
some_is_of processes name None = false
some_is_of processes name (Some place) = list_any (is_of name place) processes

-- one of these processes has the operation that is named
abbrev pub is_among : List Process → List ℕ × List ℕ → Bool
is_among processes r = some_is_of processes r.0 (place_of r.1)

-- what is wrong with the operations that a line of these words names
abbrev pub fault_of_references : List Process → Option Statement → Option TraceCause
fault_of_references processes None = None
fault_of_references processes (Some s) =
    if not (list_all (is_among processes) (references_of s)) then Some NoSuchOp
    else if is_before_itself s then Some BeforeItself
    else None

-- what is wrong with the operations that a line names
abbrev pub fault_of_line : Version → List Process → List ℕ → Option TraceCause
fault_of_line version processes line = if is_skipped (words_of line) then None else fault_of_references processes (statement_of version (words_of line))

-- the first line that names an operation wrongly
abbrev pub IsRefusedByReferences : Version → List Process → List ℕ → PlacedFault TraceCause → Type 0
IsRefusedByReferences version processes text fault = IsRefusal (λ cause line. IsFirstFault (λ _ here. fault_of_line version processes here) (lines_of text) line cause) fault
