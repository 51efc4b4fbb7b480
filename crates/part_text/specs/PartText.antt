-- The text of a part.
use Rattle.std.specs.Prelude.{◌+◌, ℕ, Bool, true, false, List, [], ◌∷◌, ◌++◌, map, codes, Option, None, Some, slice_index_or}
use Rattle.std.specs.List.{flat_map, slice_get}
use Rattle.trace_semantics.specs.declared.operation.Op.{Op}
use Rattle.trace_semantics.specs.declared.operation.OpName.{OpName}
use Rattle.trace_semantics.specs.declared.trace.Process.{Process}
use Rattle.schedule_text.specs.ScheduleText.{name_word}
use Rattle.trace_text.specs.TraceText.{header_line, init_line, final_line, proc_line, op_line, before_line}
use Rattle.trace_text.specs.TraceWritten.{line_text, version_for, canonical_trace}
use Rattle.trace_part.specs.TraceParts.{PartValue}

-- a comment with the name of an operation
abbrev pub name_comment : OpName → List (List ℕ)
name_comment n = codes "#" ∷ name_word n ∷ []

-- an operation of a process, after a comment with its name in the whole, if its place there is known
abbrev pub named_op : List ℕ → Option ℕ → Op → List (List (List ℕ))
named_op process None op = op_line op ∷ []
named_op process (Some place) op = name_comment (record { process = process; place = place }) ∷ op_line op ∷ []

-- operations of a process, of which the first has the number k there, counted from 0
abbrev pub named_ops : List ℕ → List ℕ → ℕ → List Op → List (List (List ℕ))
named_ops process places k [] = []
named_ops process places k (op ∷ ops) = named_op process (slice_get places k) op ++ named_ops process places (k + 1) ops

-- a process of which the operations have these places in the whole
abbrev pub named_process : List ℕ → Process → List (List (List ℕ))
named_process places p = proc_line p.name ∷ named_ops p.name places 0 p.operations

-- processes, of which the first has the number k, counted from 0
abbrev pub named_processes : List (List ℕ) → ℕ → List Process → List (List (List ℕ))
named_processes places k [] = []
named_processes places k (p ∷ ps) = named_process (slice_index_or places k []) p ++ named_processes places (k + 1) ps

-- the lines after the header, those of a trace, with a comment before each operation
abbrev pub named_body : PartValue → List (List (List ℕ))
named_body p = map init_line p.trace.initial ++ (map final_line p.trace.final_values ++ (named_processes p.places 0 p.trace.processes ++ map before_line p.trace.before))

-- the lines of the part
abbrev pub named_lines : PartValue → List (List (List ℕ))
named_lines p = header_line (version_for p.trace) ∷ named_body p

-- the text of the part, with the names of its operations in the whole, or without
abbrev pub part_text : Bool → PartValue → List ℕ
part_text true p = flat_map line_text (named_lines p)
part_text false p = canonical_trace p.trace
