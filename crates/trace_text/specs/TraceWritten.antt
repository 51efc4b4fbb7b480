-- The canonical text of a trace.
use Rattle.std.specs.Prelude.{ℕ, List, [], ◌∷◌, ◌++◌, map, if◌then◌else◌}
use Rattle.std.specs.List.{flat_map, join_with_byte}
use Rattle.trace_semantics.specs.Trace.{TraceValue}
use Rattle.trace_text.specs.declared.version.Version.{Version}
use Rattle.trace_text.specs.declared.version.Version.TheVariants.{One, Two, Three}
use Rattle.trace_text.specs.TraceText.{header_line, init_line, final_line, process_lines, before_line, needs_version_2, needs_version_3}

-- a line: its words, a space between each two, and a line feed
abbrev pub line_text : List (List ℕ) → List ℕ
line_text words = join_with_byte 32 words ++ 10 ∷ []

-- the lines after the header: the initial values, the final values, the processes, the pairs, each in their order
abbrev pub canonical_body : TraceValue → List (List (List ℕ))
canonical_body t = map init_line t.initial ++ (map final_line t.final_values ++ (flat_map process_lines t.processes ++ map before_line t.before))

-- the earliest version that has lines for what the trace says, and room for it
abbrev pub version_for : TraceValue → Version
version_for t = if needs_version_3 t then Three else if needs_version_2 t then Two else One

-- the header, of a later version only where the trace needs it, and the lines after it
abbrev pub canonical_lines : TraceValue → List (List (List ℕ))
canonical_lines t = header_line (version_for t) ∷ canonical_body t

-- the text of these lines
abbrev pub canonical_trace : TraceValue → List ℕ
canonical_trace t = flat_map line_text (canonical_lines t)
