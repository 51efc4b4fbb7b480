-- The versions of trace texts.
use Rattle.std.specs.Prelude.{Bool, true, false}
use Rattle.trace_semantics.specs.declared.limits.Limits.{Limits}
use Rattle.trace_semantics.specs.declared.limits.Limits.TheVariants.{Small, Large}
use Rattle.trace_text.specs.declared.version.Version.{Version}
use Rattle.trace_text.specs.declared.version.Version.TheVariants.{One, Two, Three}

-- a text of this version may have the lines of version 2
abbrev pub has_version_2_lines : Version → Bool
has_version_2_lines One = false
has_version_2_lines Two = true
has_version_2_lines Three = true

-- a line of a text of this version may say when an operation was under way
abbrev pub has_times : Version → Bool
has_times One = false
has_times Two = false
has_times Three = true

-- the limits of a text of this version
abbrev pub limits_of : Version → Limits
limits_of One = Small
limits_of Two = Small
limits_of Three = Large
