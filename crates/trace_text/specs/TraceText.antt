-- What a trace text spells.
use Rattle.std.specs.Prelude.{◌≡◌, ◌≤◌, ◌↔◌, ℕ, Bool, true, false, not, List, [], ◌∷◌, ◌++◌, length, map, Option, Some, None, codes, ◌||◌, ◌==◌, nat_lt}
use Rattle.std.specs.Fmt.{decimal}
use Rattle.std.specs.List.{filter, flat_map, list_any, Contains}
use Rattle.std.specs.List.Sorted.{IsPermutation}
use Rattle.std.specs.Str.{bytes_eq}
use Rattle.text_lines.specs.Lines.{lines_of}
use Rattle.trace_semantics.specs.declared.operation.Op.{Op}
use Rattle.trace_semantics.specs.declared.operation.Op.TheVariants.{Read, Write, Update}
use Rattle.trace_semantics.specs.declared.operation.OpName.{OpName}
use Rattle.trace_semantics.specs.declared.operation.Origin.{Origin}
use Rattle.trace_semantics.specs.declared.operation.Origin.TheVariants.{Any, Initial, Operation}
use Rattle.trace_semantics.specs.declared.operation.Span.{Span}
use Rattle.trace_semantics.specs.declared.trace.Process.{Process}
use Rattle.text_lines.specs.Kept.{kept}
use Rattle.trace_semantics.specs.declared.limits.Limits.{Limits}
use Rattle.trace_semantics.specs.declared.limits.Limits.TheVariants.{Small}
use Rattle.trace_semantics.specs.KnownOrder.{says_times}
use Rattle.trace_semantics.specs.Limits.{max_operations, max_locations, max_pairs}
use Rattle.trace_semantics.specs.Trace.{TraceValue, operation_count, location_count}
use Rattle.trace_text.specs.declared.version.Version.{Version}
use Rattle.trace_text.specs.declared.version.Version.TheVariants.{One, Two, Three}
use Rattle.trace_text.specs.Version.{has_version_2_lines, has_times, limits_of}

abbrev pub version_word : Version → List ℕ
version_word One = codes "1"
version_word Two = codes "2"
version_word Three = codes "3"

-- the words of the header of a version
abbrev pub header_line : Version → List (List ℕ)
header_line version = codes "vsc" ∷ version_word version ∷ []

-- the lines of an initial value and of a final value
abbrev pub init_line : List ℕ × ℕ → List (List ℕ)
init_line entry = codes "init" ∷ entry.0 ∷ decimal entry.1 ∷ []

abbrev pub final_line : List ℕ × ℕ → List (List ℕ)
final_line entry = codes "final" ∷ entry.0 ∷ decimal entry.1 ∷ []

abbrev pub proc_line : List ℕ → List (List ℕ)
proc_line name = codes "proc" ∷ name ∷ []

-- where an operation says that its value comes from
abbrev pub origin_words : Origin → List (List ℕ)
origin_words Any = []
origin_words Initial = codes "from" ∷ codes "init" ∷ []
origin_words (Operation n) = codes "from" ∷ n.process ∷ decimal n.place ∷ []

-- when an operation says that it was under way
abbrev pub span_words : Option Span → List (List ℕ)
span_words None = []
span_words (Some span) = codes "at" ∷ decimal span.start ∷ decimal span.end ∷ []

-- the words of the line of an operation
abbrev pub op_line : Op → List (List ℕ)
op_line (Read location value origin span) = codes "R" ∷ location ∷ decimal value ∷ (origin_words origin ++ span_words span)
op_line (Write location value span) = codes "W" ∷ location ∷ decimal value ∷ span_words span
op_line (Update location read left origin span) = codes "U" ∷ location ∷ decimal read ∷ decimal left ∷ (origin_words origin ++ span_words span)

-- a process: its first line, and a line for each of its operations
abbrev pub process_lines : Process → List (List (List ℕ))
process_lines p = proc_line p.name ∷ map op_line p.operations

-- the line of a pair of which the first stands before the second
abbrev pub before_line : OpName × OpName → List (List ℕ)
before_line pair = codes "before" ∷ pair.0.process ∷ decimal pair.0.place ∷ pair.1.process ∷ decimal pair.1.place ∷ []

-- the line begins with this word
abbrev pub begins : List ℕ → List (List ℕ) → Bool
begins key [] = false
begins key (word ∷ words) = bytes_eq word key

-- the line is of a process: it says no initial or final value and is no `before` line
abbrev pub is_process_line : List (List ℕ) → Bool
is_process_line words = not (begins (codes "init") words || begins (codes "final") words || begins (codes "before") words)

-- an operation says where its value comes from
abbrev pub has_origin : Op → Bool
has_origin (Read location value Any span) = false
has_origin (Read location value origin span) = true
has_origin (Write location value span) = false
has_origin (Update location read left Any span) = false
has_origin (Update location read left origin span) = true

-- the trace says what version 1 has no line for
abbrev pub needs_version_2 : TraceValue → Bool
needs_version_2 t = not (length t.before == 0) || list_any (λ (p : Process). list_any has_origin p.operations) t.processes

-- the trace says times, for which versions 1 and 2 have no line, or is larger than they have room for
abbrev pub needs_version_3 : TraceValue → Bool
needs_version_3 t = says_times t || (nat_lt (max_operations Small) (operation_count t) || (nat_lt (max_pairs Small) (length t.before) || nat_lt (max_locations Small) (location_count t)))

-- the trace has no more operations and locations than these limits allow
pub record FitsIn (limits : Limits) (t : TraceValue) : Type 0 where
  pub few_operations : operation_count t ≤ max_operations limits
  pub few_locations : location_count t ≤ max_locations limits

-- The lines that are not skipped are a header and a body. In the body stand the lines of the processes, in order;
-- before the first of them, in any order, those of the initial and the final values; and anywhere those of the pairs, which may
-- be repeated. The version has lines for what the trace says, and room for it.
pub record SpellsTrace (text : List ℕ) (t : TraceValue) : Type 0 where
  pub version : Version
  pub body : List (List (List ℕ))
  pub lines : kept (lines_of text) ≡ header_line version ∷ body
  pub processes : filter is_process_line body ≡ flat_map process_lines t.processes
  pub initial : IsPermutation (map init_line t.initial) (filter (begins (codes "init")) body)
  pub final_values : IsPermutation (map final_line t.final_values) (filter (begins (codes "final")) body)
  pub in_front : (front behind : List (List (List ℕ))) → body ≡ front ++ behind → list_any (begins (codes "proc")) front ≡ true → list_any (λ words. begins (codes "init") words || begins (codes "final") words) behind ≡ false
  pub before : (words : List (List ℕ)) → Contains (filter (begins (codes "before")) body) words ↔ Contains (map before_line t.before) words
  pub few_before : length (filter (begins (codes "before")) body) ≤ max_pairs (limits_of version)
  pub lines_known : has_version_2_lines version ≡ false → needs_version_2 t ≡ false
  pub times_known : has_times version ≡ false → says_times t ≡ false
  pub fits : FitsIn (limits_of version) t
