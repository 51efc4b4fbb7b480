-- The canonical text of a schedule.
use Rattle.std.specs.Prelude.{ℕ, List, [], ◌∷◌, ◌++◌}
use Rattle.std.specs.List.{flat_map}
use Rattle.trace_semantics.specs.declared.operation.OpName.{OpName}
use Rattle.schedule_text.specs.ScheduleText.{name_word}

-- a name as its line, ended by a line feed
abbrev pub name_line : OpName → List ℕ
name_line n = name_word n ++ 10 ∷ []

-- one name a line
abbrev pub canonical_schedule : List OpName → List ℕ
canonical_schedule names = flat_map name_line names
